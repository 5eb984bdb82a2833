-- `lines::Sheet::hand_out`: each test leads to the piece that it stands for.
-- Assumes nothing.
use Rattle.std.proofs.Common.{refl}
use Rattle.lines.proofs.Answers.{piece_answers, piece_over, piece_no, piece_first, piece_last, piece_shapes}
use Rattle.lines.proofs.Sheet.hand_out.Goals as goal

pub returns-then-self : goal.returns-then-self
returns-then-self c = piece_answers _ _ c.requires (piece_over _ _ c.requires c.if-self.true) refl refl _ c.handed.ensures

pub returns-then-self-ne0 : goal.returns-then-self-ne0
returns-then-self-ne0 c =
    let put = c.put_no-bytes.ensures in
    piece_answers _ _ c.requires (piece_no _ _ c.requires c.if-self.false c.if-self-ne0.true) put.value put.out_after _ c.handed-then-self-ne0.ensures

pub returns-then-not-self : goal.returns-then-not-self
returns-then-not-self c =
    let put = c.put_run-bytes.ensures in
    let piece = piece_first _ _ c.requires c.if-self.false c.if-self-ne0.false c.if-not-self.true in
    piece_answers _ _ c.requires piece put.value put.out_after _ c.handed-then-not-self.ensures

pub returns-then-run : goal.returns-then-run
returns-then-run c =
    let put = c.put_end-bytes.ensures in
    let piece = piece_last _ _ c.requires c.if-self.false c.if-self-ne0.false c.if-not-self.false c.if-run.true in
    piece_answers _ _ c.requires piece put.value put.out_after _ c.handed-then-run.ensures

pub returns : goal.returns
returns c =
    let put = c.list-listed.ensures in
    let piece = piece_shapes _ _ c.requires c.if-self.false c.if-self-ne0.false c.if-not-self.false c.if-run.false _ put.run_value in
    piece_answers _ _ c.requires piece put.bytes_value put.out_after _ c.handed-2.ensures
