-- `record::packing::unpack`: one place more.
-- Assumes nothing.
use Rattle.std.proofs.Common.{rules}
use Rattle.record.proofs.Packed.{unpacks}
use Rattle.record.proofs.packing.unpack.Goals as goal

pub loop-i-preserved : goal.loop-i-preserved
loop-i-preserved c = search (rules, unpacks)

pub returns : goal.returns
returns c = search (rules, unpacks)
