use Rattle.std.proofs.Common.{arith}
use Rattle.nm_short.proofs.FileFirst.{one_file, all_files}
use Rattle.nm_short.proofs.run.first_files.Goals as goal

pub loop-row-preserved : goal.loop-row-preserved
loop-row-preserved c = record {
  number = omega (arith, c.loop-row.invariant.number);
  files = rw c.in_ok-push.ensures.items (one_file _ c.loop-row.number c.loop-row.row-index c.args.head.now.file_systems c.row-item.result
      c.loop-row.files.items _ c.in_ok-file.file (rw (← c.items-row-items.ensures) c.loop-row-test.true) (rw c.items-row-items.ensures at c.row-item.is)
      (rw (c.file_number.ensures, c.items-servers.ensures) at c.in_ok-file.ensures) c.loop-row.invariant.files);
}

pub returns : goal.returns
returns c =
    all_files _ c.loop-row.number c.loop-row.row-index c.args.head.now.file_systems _ _ (rw (← c.items-row-items.ensures) c.loop-row-test.false)
    c.loop-row.invariant.files
