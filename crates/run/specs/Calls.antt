-- What the calls on runs answer, for all numbers and every state s, well formed or not.
--     progress_reply                       a step's answer as a reply: the refusal's number, and how many shapes were handed out
--     start_check, start_reply, start_run  the start of a run (begun); a refused one is a state all 0 (no_run)
--     raised, progress                     the figure after a step, and how the step goes
--     if_handed                            what a step answers where it hands out a shape, and where it does not
--     moved_on                             the state after a shape was handed out
--     step_reply, step_run, step_places, step_change  the step: its reply, the state that it leaves, the pattern and its change
-- Assumes nothing.
use Rattle.std.specs.Prelude.{cond, List, ℕ, ◌+◌, ◌^◌, ltb, Ok}
use Rattle.shape.specs.Number.{local_pattern, change}
use Rattle.shape.specs.Reply.{Reply, refused, outcome_reply, Outcome}
use Rattle.shape.specs.Check.{unless, sized, unless_refused}
use Rattle.shape.specs.declared.Refusal.TheVariants.{Size, Range, State}
use Rattle.run.specs.declared.Run.{Run}
use Rattle.run.specs.declared.Progress.{Progress}
use Rattle.run.specs.declared.Progress.TheVariants.{Handed, Done as AtEnd, Refused}
use Rattle.run.specs.State.{no_places, padded, places_at, in_range, belong}

abbrev pub progress_reply : Progress → Reply
progress_reply Handed = record { refusal = 0; value = 1 }
progress_reply AtEnd = record { refusal = 0; value = 0 }
progress_reply (Refused f) = refused f

-- 01, Refusal numbers, 1 and 8.
unfoldable pub start_check : ℕ → ℕ → ℕ → Outcome
start_check n first end = unless (sized n) Size (unless (in_range n first end) Range (Ok tt))

unfoldable pub start_reply : ℕ → ℕ → ℕ → Reply
start_reply n first end = outcome_reply (start_check n first end)

-- 01, Change, run, figure: a start has next = first and figure 0.
unfoldable pub begun : ℕ → ℕ → ℕ → Run
begun n first end = record { size = n; next = first; end = end; figure = 0; places = places_at n first end }

unfoldable pub no_run : Run
no_run = record { size = 0; next = 0; end = 0; figure = 0; places = no_places }

unfoldable pub start_run : ℕ → ℕ → ℕ → Run
start_run n first end = unless_refused (start_check n first end) (begun n first end) no_run

-- The figure raised by the change of the shape that is handed out.
abbrev pub raised : Run → ℕ
raised s = s.figure + change s.size s.next

-- 01, Refusal numbers, 9; at the end no figure is raised.
unfoldable pub progress : Run → Progress
progress s =
    cond (belong s.size s.next s.end s.places)
    (cond (ltb s.next s.end) (cond (ltb (raised s) (2 ^ 64)) Handed (Refused State)) AtEnd)
    (Refused State)

abbrev pub if_handed : {A : Type 0} → Progress → A → A → A
if_handed Handed new old = new
if_handed AtEnd new old = old
if_handed (Refused f) new old = old

unfoldable pub step_reply : Run → Reply
step_reply s = progress_reply (progress s)

unfoldable pub moved_on : Run → Run
moved_on s =
    record {
      size = s.size;
      next = s.next + 1;
      end = s.end;
      figure = raised s;
      places = places_at s.size (s.next + 1) s.end;
    }

unfoldable pub step_run : Run → Run
step_run s = if_handed (progress s) (moved_on s) s

unfoldable pub step_places : Run → List ℕ
step_places s = if_handed (progress s) (padded (local_pattern s.size s.next)) no_places

unfoldable pub step_change : Run → ℕ
step_change s = if_handed (progress s) (change s.size s.next) 0
