-- The labels that a search has seen, each linked to the next larger one.
--     Linked above a                     the label a has a link
--     Links above closed                 how the labels from `closed` on are linked
--     LinkedBelow above closed entry a   a is one of them, and below the entry
-- Assumes nothing.
use Rattle.std.specs.Prelude.{◌≡◌, ℕ, ◌<◌, ◌≤◌, List, length, slice_index}

abbrev pub Linked : List ℕ → ℕ → Type 0
Linked above a = slice_index above a ≡ 0 → ⊥

-- A link leads upwards, to a label that has one itself or to 36, and past no label that has one.
pub record Links (above : List ℕ) (closed : ℕ) : Type 0 where
  pub long : length above ≡ 36
  pub first : Linked above closed
  pub upward : (a : ℕ) → closed ≤ a → Linked above a → a < slice_index above a
  pub further : (a : ℕ) → closed ≤ a → Linked above a → slice_index above a < 36 → Linked above (slice_index above a)
  pub nearest : (a b : ℕ) → closed ≤ a → Linked above a → Linked above b → a < b → slice_index above a ≤ b

pub record LinkedBelow (above : List ℕ) (closed entry a : ℕ) : Type 0 where
  pub from : closed ≤ a
  pub under : a < entry
  pub linked : Linked above a
