-- The contracts of `Sheet::open` and `Sheet::fill` ask nothing of the caller and say exactly what is answered, all of it, and what the buffer
-- holds in the end. So two answers that meet one of them are equal. t is the sheet handed in, out the buffer.
--     filled_exact                          an answer is known from its parts
--     open_determined, fill_determined
-- Assumes nothing.
use mathlib.Core.Path.{◌≡◌, ap}
use mathlib.Core.Logic.Iff
use mathlib.Core.Logic.{◌↔◌}
use mathlib.Core.List.{List}
use Prim.Native.Nat.{ℕ}
use lib.ListN.{length}
use Rattle.shape.specs.Check.{numbered}
use Rattle.shape.specs.Reply.{Numbered}
use Rattle.shape.specs.Determined.{Determined, determined}
use Rattle.shape.proofs.Replies.{numbered_exact}
use Rattle.lines.specs.declared.Sheet.{Sheet}
use Rattle.lines.specs.declared.Filled.{Filled}
use Rattle.lines.specs.Calls.{open_sheet, fill_check, piece_text, fill_reply, fill_sheet, fill_end}
use Rattle.lines.proofs.Sheet.open.Reads as opening
use Rattle.lines.proofs.Sheet.fill.Reads as filling

-- P says what the answer is
filled_exact : {P : Type 0} (r : Filled) (o : Numbered) (t : Sheet) (p q : List ℕ) → P ↔ (r.bytes ≡ o)
    → (P × ((r.sheet ≡ t) × (p ≡ q))) ↔ ◌≡◌ {A = Filled × List ℕ} (r, p) (record { bytes = o; sheet = t }, q)
filled_exact r o t p q g = (
  λ (h, (u, e)) i. (record { bytes = g.0 h i; sheet = u i }, e i),
  λ e. (
    g.1 (ap (λ (x : Filled × List ℕ). x.0.bytes) e),
    (ap (λ (x : Filled × List ℕ). x.0.sheet) e, ap (λ (x : Filled × List ℕ). x.1) e),
  ),
)

pub open_determined : Determined Sheet opening.Pre opening.Post (λ κ r s. r) (λ κ (input, _). open_sheet input.now)
open_determined = determined (λ κ a. tt) (λ κ a r s. Iff.rfl)

pub fill_determined : Determined (Filled × List ℕ) filling.Pre filling.Post (λ κ r (_, (s, _)). (r, s.now)) (λ κ (t, (out, _)). (
  record {
    bytes = numbered (fill_check t (length out.now)) (length (piece_text t (length out.now)));
    sheet = fill_sheet t (length out.now);
  },
  fill_end t out.now,
))
unfolding fill_reply
fill_determined = determined (λ κ a. tt) (λ κ a r s. filled_exact r _ _ _ _ (numbered_exact r.bytes _))
