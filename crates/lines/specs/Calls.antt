-- What the sheet library answers, for every input and every sheet s that is handed in, well formed or not.
--     refusing, begun_sheet       a sheet that only tells a refusal; one whose run starts
--     open_sheet                  the sheet that an input opens
--     walks                       whether a run can step or is done
--     began, over, keeps          whether the parts of a sheet belong together
--     fill_check                  what is asked before a piece is handed out, of a buffer of so many bytes
--     standing                    the run that stands at a number, with a figure
--     fitting                     how many shapes' lines a piece takes: one is put where the longest would fit
--     listed, listed_lines        that, for a run with a buffer of so many bytes, and these lines
--     piece_text, piece_sheet     the next piece, and the sheet after it (sheet_with)
--     fill_reply, fill_sheet, fill_end    what filling a buffer answers, and what it leaves in the buffer
-- Assumes nothing.
use Rattle.std.specs.Prelude.{Bool, true, false, cond, ◌&&◌, List, [], ℕ, zero, suc, ◌+◌, ◌-◌, leb, eqb, length, Ok, Err}
use Rattle.shape.specs.Reply.{Reply, refusal_number, Outcome}
use Rattle.shape.specs.Check.{unless, reply, unless_refused}
use Rattle.shape.specs.declared.Refusal.TheVariants.{Length, State}
use Rattle.run.specs.declared.Run.{Run}
use Rattle.run.specs.declared.Progress.{Progress}
use Rattle.run.specs.declared.Progress.TheVariants.{Handed, Done as AtEnd, Refused as NotHanded}
use Rattle.run.specs.State.{places_at}
use Rattle.run.specs.Calls.{no_run, begun, progress, if_handed, step_run}
use Rattle.run.specs.Walk.{after}
use Rattle.lines.specs.declared.Sheet.{Sheet}
use Rattle.text.specs.Text.{run_line, shape_line, shape_lines, end_line, no_line, written, line_room}
use Rattle.text.specs.Input.{asked_size, asked_first, asked_end}
use Rattle.lines.specs.Sheet.{open_check}

abbrev pub refusing : ℕ → Sheet
refusing refusal = record { refusal = refusal; opened = false; ended = false; first = 0; run = no_run }

abbrev pub begun_sheet : ℕ → ℕ → ℕ → Sheet
begun_sheet n first end = record { refusal = 0; opened = false; ended = false; first = first; run = begun n first end }

abbrev pub opened_as : Outcome → Sheet → Sheet
opened_as (Ok _) s = s
opened_as (Err f) s = refusing (refusal_number f)

unfoldable pub open_sheet : List ℕ → Sheet
open_sheet input = opened_as (open_check input) (begun_sheet (asked_size input) (asked_first input) (asked_end input))

abbrev pub walks : Progress → Bool
walks Handed = true
walks AtEnd = true
walks (NotHanded f) = false

-- A run that has not stepped before the sheet's first line is handed out, and is done once the last is.
abbrev pub began : Bool → ℕ → ℕ → Bool
began true first next = leb first next
began false first next = eqb first next

abbrev pub over : Bool → ℕ → ℕ → Bool
over true next end = eqb next end
over false next end = true

-- Of a sheet that tells a refusal nothing is asked but that there is such a number. Of the run of another it is asked what a step asks.
unfoldable pub keeps : Sheet → Bool
keeps s =
    cond (eqb s.refusal 0)
    (walks (progress s.run) && (began s.opened s.first s.run.next && over s.ended s.run.next s.run.end))
    (leb s.refusal 11)

unfoldable pub fill_check : Sheet → ℕ → Outcome
fill_check s room = unless (leb line_room room) Length (unless (keeps s) State (Ok tt))

abbrev pub standing : ℕ → ℕ → ℕ → ℕ → Run
standing n k end figure = record { size = n; next = k; end = end; figure = figure; places = places_at n k end }

unfoldable pub fitting : ℕ → ℕ → Run → ℕ
fitting zero room s = 0
fitting (suc d) room s =
    cond (leb line_room room)
    (if_handed (progress s) (suc (fitting d (room - length (shape_line s.size s.next)) (step_run s))) 0)
    0

abbrev pub listed : Run → ℕ → ℕ
listed s room = fitting (s.end - s.next) room s

abbrev pub listed_lines : Run → ℕ → List ℕ
listed_lines s room = shape_lines s.size s.next (s.next + listed s room)

unfoldable pub piece_text : Sheet → ℕ → List ℕ
piece_text s room =
    cond s.ended []
    (cond (eqb s.refusal 0)
    (cond s.opened
    (cond (eqb s.run.next s.run.end)
    (end_line (s.run.end - s.first) s.run.figure)
    (listed_lines s.run room))
    (run_line s.run.size s.first s.run.end))
    (no_line s.refusal))

-- What a piece changes of a sheet.
abbrev pub sheet_with : Sheet → Bool → Bool → Run → Sheet
sheet_with s opened ended run = record { refusal = s.refusal; opened = opened; ended = ended; first = s.first; run = run }

unfoldable pub piece_sheet : Sheet → ℕ → Sheet
piece_sheet s room =
    cond s.ended s
    (cond (eqb s.refusal 0)
    (cond s.opened
    (cond (eqb s.run.next s.run.end)
    (sheet_with s true true s.run)
    (sheet_with s true false (after (listed s.run room) s.run)))
    (sheet_with s true false s.run))
    (sheet_with s s.opened true s.run))

unfoldable pub fill_reply : Sheet → ℕ → Reply
fill_reply s room = reply (fill_check s room) (length (piece_text s room))

unfoldable pub fill_sheet : Sheet → ℕ → Sheet
fill_sheet s room = unless_refused (fill_check s room) (piece_sheet s room) s

unfoldable pub fill_end : Sheet → List ℕ → List ℕ
fill_end s out = unless_refused (fill_check s (length out)) (written out 0 (piece_text s (length out))) out
