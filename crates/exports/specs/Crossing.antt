-- What crosses to C, in the words of the calls' own definitions.
--     replied                  a reply: the refusal's number and the value
--     from_start               the part of a slice from its first place on
--     head_told, later_told    the part that the head is, or the later of two: of which slice, from where, how many places
--     chosen, read_from        what a program reads that adds the offset to its own pointer: p and q are what its two slices hold
--     start_told, step_told    a start and a step of a run: each has its reply's numbers in the place of an enum
--     fill_told                a sheet's next piece, likewise
-- Assumes nothing.
use Rattle.std.specs.Prelude.{List, ℕ, zero, suc, length, take, drop}
use Rattle.shape.specs.Reply.{Reply}
use Rattle.pattern.specs.Calls.{head_part, later_of, later_part}
use Rattle.run.specs.declared.Run.{Run}
use Rattle.run.specs.Calls.{start_reply, start_run, step_reply, step_run, step_places, step_change}
use Rattle.lines.specs.declared.Sheet.{Sheet}
use Rattle.lines.specs.Calls.{fill_reply, fill_sheet}
use Rattle.exports.specs.declared.Reply.{Reply as Crossed}
use Rattle.exports.specs.declared.patterns.Part.{Part}
use Rattle.exports.specs.declared.runs.Started.{Started}
use Rattle.exports.specs.declared.runs.Stepped.{Stepped}
use Rattle.exports.specs.declared.sheets.Filled.{Filled}

unfoldable pub replied : Reply → Crossed
replied y = record { refusal = y.refusal; value = y.value }

abbrev pub from_start : ℕ → ℕ → Part
from_start s k = record { slice = s; offset = 0; length = k }

-- A part that is handed back begins where a lent slice begins, so which slice and how many places tell all of it.
unfoldable pub head_told : ℕ → List ℕ → Part
head_told n p = from_start 0 (length (head_part n p))

unfoldable pub later_told : ℕ → List ℕ → List ℕ → Part
later_told n p q = from_start (later_of n p q 0 1) (length (later_part n p q))

abbrev pub chosen : {A : Type 0} → ℕ → A → A → A
chosen zero first second = first
chosen (suc k) first second = second

abbrev pub read_from : Part → List ℕ → List ℕ → List ℕ
read_from r p q = take r.length (drop r.offset (chosen r.slice p q))

unfoldable pub start_told : ℕ → ℕ → ℕ → Started
start_told n first end = record { refusal = (start_reply n first end).refusal; run = start_run n first end }

unfoldable pub step_told : Run → Stepped
step_told s =
    record {
      refusal = (step_reply s).refusal;
      handed = (step_reply s).value;
      run = step_run s;
      places = step_places s;
      change = step_change s;
    }

unfoldable pub fill_told : Sheet → ℕ → Filled
fill_told s room = record { refusal = (fill_reply s room).refusal; bytes = (fill_reply s room).value; sheet = fill_sheet s room }
