-- Answers as they cross: the numbers that a case of an enum tells are its reply's, and what is said of a reply is said of what crosses. x is
-- the answer, f a refusal, v the number that the code found for it, and r what crosses.
--     done_crosses, refused_crosses             an outcome
--     value_crosses, unnumbered_crosses         a number, or a refusal
--     handed_crosses, ended_crosses, stopped_crosses      how a step went
--     reply_crosses                             any reply that a call's contract gives
--     move_crosses, move_left                   the reply of a move, and what it leaves
--     start_crosses, step_crosses               the whole answer of a start and of a step
--     fill_crosses                              and of a sheet's next piece
--     told                                      these, for `search`
-- Assumes nothing.
use mathlib.Core.Path.{◌≡◌, ap, ◌∙◌}
use mathlib.Core.List.{List}
use Prim.Native.Nat.{ℕ}
use lib.IntN.{ℤ}
use borrow.Author.Rules.{rules}
use mir.Syntax.{w64}
use mir.Val.{SFits, to_z, of_z}
use mir.Facts.{to_z-of_z}
use Rattle.shape.specs.Numbering.{Numbering}
use Rattle.shape.specs.Move.{move_reply, move_end}
use Rattle.shape.specs.Reply.{Reply, refusal_number, refused, outcome_reply, numbered_reply, Outcome, Numbered}
use Rattle.shape.specs.declared.Refusal.{Refusal}
use Rattle.std.specs.Prelude.{Ok, Err}
use Rattle.run.specs.declared.Progress.{Progress}
use Rattle.run.specs.declared.Progress.TheVariants.{Handed, Done as AtEnd, Refused as Stopped}
use Rattle.run.specs.declared.Run.{Run}
use Rattle.run.specs.Calls.{progress_reply, start_reply, start_run, step_reply, step_run, step_places, step_change}
use Rattle.lines.specs.declared.Sheet.{Sheet}
use Rattle.lines.specs.Calls.{fill_reply, fill_sheet}
use Rattle.exports.specs.declared.Reply.{Reply as Crossed}
use Rattle.exports.specs.declared.runs.Started.{Started}
use Rattle.exports.specs.declared.runs.Stepped.{Stepped}
use Rattle.exports.specs.declared.sheets.Filled.{Filled}
use Rattle.exports.specs.Crossing.{replied, start_told, step_told, fill_told}

abbrev numbers : ℕ → ℕ → Crossed
numbers f k = record { refusal = f; value = k }

pub done_crosses : (x : Outcome) → x ≡ Ok tt → numbers 0 0 ≡ replied (outcome_reply x)
unfolding replied
done_crosses x e = rw e

pub refused_crosses : (x : Outcome) (f : Refusal) (v : ℕ) → x ≡ Err f → v ≡ refusal_number f → numbers v 0 ≡ replied (outcome_reply x)
unfolding replied
refused_crosses x f v e g = rw (e, g)

pub value_crosses : (x : Numbered) (k : ℕ) → x ≡ Ok k → numbers 0 k ≡ replied (numbered_reply x)
unfolding replied
value_crosses x k e = rw e

pub unnumbered_crosses : (x : Numbered) (f : Refusal) (r : Crossed) → x ≡ Err f → r ≡ replied (refused f) → r ≡ replied (numbered_reply x)
unnumbered_crosses x f r e g = rw e g

pub handed_crosses : (x : Progress) → x ≡ Handed → numbers 0 1 ≡ replied (progress_reply x)
unfolding replied
handed_crosses x e = rw e

pub ended_crosses : (x : Progress) → x ≡ AtEnd → numbers 0 0 ≡ replied (progress_reply x)
unfolding replied
ended_crosses x e = rw e

pub stopped_crosses : (x : Progress) (f : Refusal) (r : Crossed) → x ≡ Stopped f → r ≡ replied (refused f) → r ≡ replied (progress_reply x)
stopped_crosses x f r e g = rw e g

pub reply_crosses : (r : Crossed) (y z : Reply) → r ≡ replied y → y ≡ z → r ≡ replied z
reply_crosses r y z e g = e ∙ ap replied g

-- the distance d of a move is handed on, and read back from its bits
module _ (N : Numbering) (d : ℤ) (s : SFits w64 d) (p : List ℕ) where
  pub move_crosses : (r : Crossed) (y : Reply) → r ≡ replied y → y ≡ move_reply N (to_z w64 (of_z w64 d)) p → r ≡ replied (move_reply N d p)
  move_crosses r y e g = e ∙ ap replied (g ∙ ap (λ z. move_reply N z p) (to_z-of_z s))

  pub move_left : (q : List ℕ) → q ≡ move_end N (to_z w64 (of_z w64 d)) p → q ≡ move_end N d p
  move_left q e = e ∙ ap (λ z. move_end N z p) (to_z-of_z s)

-- t is what crossed of the reply y, and s the state after it
module _ (t : Crossed) (y : Reply) (s : Run) (e : t ≡ replied y) where
  pub start_crosses : (n first end : ℕ) → y ≡ start_reply n first end → s ≡ start_run n first end
      → ◌≡◌ {A = Started} (record { refusal = t.refusal; run = s }) (start_told n first end)
  unfolding replied start_told
  start_crosses n first end g h = rw (e, g, h)

  pub step_crosses : (run : Run) (p : List ℕ) (c : ℕ) → y ≡ step_reply run → s ≡ step_run run → p ≡ step_places run → c ≡ step_change run
      → ◌≡◌ {A = Stepped} (record { refusal = t.refusal; handed = t.value; run = s; places = p; change = c }) (step_told run)
  unfolding replied step_told
  step_crosses run p c g h q d = rw (e, g, h, q, d)

pub fill_crosses : (t : Crossed) (y : Reply) (s sheet : Sheet) (room : ℕ) → t ≡ replied y → y ≡ fill_reply sheet room → s ≡ fill_sheet sheet room
    → ◌≡◌ {A = Filled} (record { refusal = t.refusal; bytes = t.value; sheet = s }) (fill_told sheet room)
unfolding replied fill_told
fill_crosses t y s sheet room e g h = rw (e, g, h)

pub ruleset told = (
  rules,
  done_crosses,
  refused_crosses,
  value_crosses,
  unnumbered_crosses,
  handed_crosses,
  ended_crosses,
  stopped_crosses,
  reply_crosses,
  move_crosses,
  move_left,
  start_crosses,
  step_crosses,
  fill_crosses,
)
