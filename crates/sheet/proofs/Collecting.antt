-- How `collect` collects a batch.
--     Collected             what has been collected of a sheet when so many bytes of the buffer are in use
--     none_collected        before the first piece
--     next_collected        after one more
--     next_falls            which leaves fewer lines
--     in_use, bytes_fit     the bytes in use are bytes of the buffer, and so are those of one piece more
--     handed_still, none_more      a piece with no bytes leaves the batch as it is; and where it is the first, there is none
--     full_batch            a buffer that has no room left was not too short from the start
-- Assumes nothing.
use mathlib.Core.Path.{◌≡◌, refl, sym, ap, ◌∙◌}
use mathlib.Core.List.{List, ◌++◌, append_assoc}
use Prim.Native.Nat.{ℕ, ◌+◌, ◌-◌, ◌*◌, ◌^◌, ◌≤◌, ◌<◌}
use native.Mathlib.Nat.{zero-add}
use native.Mathlib.Omega.{arith}
use lib.ListN.{length, take, drop, length-append, length-drop}
use lib.Seq.{length-take-le, take-append-add, take-append_seam}
use mir.Syntax.{w64}
use mir.Val.{Fits}
use borrow.Rule.Slice.PartMut.{put_mid, post_of, same_len_mid, take_put}
use Rattle.shape.specs.Reply.{Reply, numbered_reply, Numbered, Outcome}
use Rattle.std.specs.Prelude.{Ok, Err}
use Rattle.std.specs.Result.{result_unwrap_or}
use Rattle.text.specs.Text.{line_room}
use Rattle.lines.specs.declared.Sheet.{Sheet}
use Rattle.lines.specs.Calls.{fill_check, piece_text, fill_reply, fill_sheet, fill_end}
use Rattle.lines.specs.Handing.{lines_left}
use Rattle.lines.proofs.Falling.{pieces_fall}
use Rattle.sheet.specs.Batch.{Handed, Silent}
use Rattle.sheet.proofs.Batches.{piece, handed_none, handed_one, handed_then}

piece_length : (o : Outcome) (s : Sheet) (room : ℕ) → fill_check s room ≡ o → (fill_reply s room).value ≡ length (piece s room)
unfolding fill_reply
piece_length (Ok _) s room e = rw e
piece_length (Err f) s room e = rw e

piece_put : (o : Outcome) (s : Sheet) (out : List ℕ) → fill_check s (length out) ≡ o
    → fill_end s out ≡ piece s (length out) ++ drop (length (piece s (length out))) out
unfolding fill_end
piece_put (Ok _) s out e = rw (e, zero-add (length (piece_text s (length out))))
piece_put (Err f) s out e = rw e

-- before: the buffer as it was lent; left: the sheet as it stands
pub record Collected (s : Sheet) (before buffer : List ℕ) (left : Sheet) (at : ℕ) : Type 0 where
  pub same : length buffer ≡ length before
  pub within : at ≤ length before
  pub lines : lines_left left ≤ lines_left s
  pub fewer : 0 < at → lines_left left < lines_left s
  pub start : at ≡ 0 → left ≡ s
  pub batch : Handed s (take at buffer) left

pub none_collected : (s : Sheet) (buffer : List ℕ) → Collected s buffer buffer s 0
none_collected s buffer =
    record {
      same = refl;
      within = omega arith;
      lines = omega arith;
      fewer = λ h. absurd (omega arith);
      start = λ e. refl;
      batch = handed_none s;
    }

module _ (s : Sheet) (before buffer : List ℕ) (left : Sheet) (at : ℕ) (m : Collected s before buffer left at) where
  abbrev part : List ℕ
  part = take (length buffer - at) (drop at buffer)

  part_length : length part ≡ length buffer - at
  part_length = length-take-le (length buffer - at) (drop at buffer) (rw (length-drop at buffer) (omega arith))

  pub in_use : at ≤ length buffer
  in_use = let same = m.same in let within = m.within in omega arith

  pub handed_still : (after : List ℕ) → Handed s (take at (put_mid at (length buffer - at) buffer after)) left
  handed_still after = rw (take_put at (length buffer - at) buffer after in_use) m.batch

  pub full_batch : length buffer - at < line_room → at ≡ 0 → Silent s (length before)
  full_batch full none room = let same = m.same in absurd (omega arith)

  -- what a piece answers, in its own words and in the program's
  module _ (bytes : ℕ) (reply : Numbered) (told : bytes ≡ result_unwrap_or reply 0)
      (answer : numbered_reply reply ≡ fill_reply left (length part)) where
    bytes_reply : bytes ≡ (fill_reply left (length part)).value
    bytes_reply = told ∙ by_answer reply ∙ ap (λ (r : Reply). r.value) answer
      where
        by_answer : (r : Numbered) → result_unwrap_or r 0 ≡ (numbered_reply r).value
        by_answer (Ok k) = refl
        by_answer (Err f) = refl

    pub none_more : bytes ≡ 0 → at ≡ 0 → Silent s (length before)
    none_more nothing none room =
        let whole : length part ≡ length before = let same = m.same in omega (arith, part_length) in
        rw (sym whole, sym (m.start none)) (sym bytes_reply ∙ nothing)

    pub next_falls : (next : Sheet) → next ≡ fill_sheet left (length part) → (bytes ≡ 0 → ⊥) → lines_left next < lines_left left
    next_falls next moved some = rw moved (pieces_fall left (length part) (omega (arith, bytes_reply)))

    -- after: the part that was lent, as the piece leaves it
    module _ (after : List ℕ) (kept : length after ≡ length part) (put : after ≡ fill_end left part) where
      abbrev text : List ℕ
      text = piece left (length part)

      bytes_text : bytes ≡ length text
      bytes_text = bytes_reply ∙ piece_length (fill_check left (length part)) left (length part) refl

      after_text : after ≡ text ++ drop (length text) part
      after_text = put ∙ piece_put (fill_check left (length part)) left part refl

      text_fits : length text ≤ length part
      text_fits =
          let all : length text + (length part - length text) ≡ length part =
          ap (λ (n : ℕ). length text + n) (sym (length-drop (length text) part))
          ∙ sym (length-append text _)
          ∙ ap length (sym after_text)
          ∙ kept in
          omega arith

      bytes_within : at + bytes ≤ length buffer
      bytes_within = omega (arith, in_use, bytes_text, text_fits, part_length)

      pub bytes_fit : length before * 1 < 2 ^ 63 → Fits w64 (at + bytes)
      bytes_fit small = record { fits = let same = m.same in omega (arith, bytes_within) }

      abbrev filled : List ℕ
      filled = put_mid at (length buffer - at) buffer after

      batch_text : take (at + bytes) filled ≡ take at buffer ++ text
      batch_text =
          let rest = drop (length text) part in
          let behind = post_of at (length buffer - at) buffer in
          let front : at ≡ length (take at buffer) = sym (length-take-le at buffer in_use) in
          rw (bytes_text, after_text, append_assoc text rest behind)
          (ap (λ (k : ℕ). take (k + length text) (take at buffer ++ (text ++ (rest ++ behind)))) front
          ∙ take-append-add (take at buffer) _ (length text)
          ∙ ap (λ (t : List ℕ). take at buffer ++ t) (take-append_seam text _))

      next_handed : line_room ≤ length buffer - at → Handed s (take (at + bytes) filled) (fill_sheet left (length part))
      next_handed room =
          rw batch_text (handed_then s left _ (take at buffer) text m.batch (handed_one left (length part) (rw part_length room)))

      pub next_collected : (next : Sheet) → next ≡ fill_sheet left (length part) → line_room ≤ length buffer - at → (bytes ≡ 0 → ⊥)
          → Collected s before filled next (at + bytes)
      next_collected next moved room some =
          let falls = next_falls next moved some in
          let lines = m.lines in
          let same = m.same in
          record {
            same = same_len_mid at (length buffer - at) buffer after kept ∙ m.same;
            within = omega (arith, bytes_within);
            lines = omega arith;
            fewer = λ h. omega arith;
            start = λ e. absurd (some (omega arith));
            batch = rw moved (next_handed room);
          }

pub ruleset collecting = (none_collected, in_use, handed_still, full_batch, none_more, bytes_fit, next_falls, next_collected)
