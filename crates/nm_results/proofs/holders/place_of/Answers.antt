use Rattle.std.proofs.Common.{Ok, Err, sym}
use Rattle.nm_results.proofs.HolderLaws.{place_searched}
use Rattle.nm_results.proofs.holders.place_of.Goals as goal

pub returns-in-Ok : goal.returns-in-Ok
returns-in-Ok c = sym (place_searched c.args.instance.now c.args.holders.now (Ok c.in-Ok.place) c.requires c.in-Ok.ensures.bound c.in-Ok.ensures.position)

pub returns-in-Err : goal.returns-in-Err
returns-in-Err c = sym (place_searched c.args.instance.now c.args.holders.now (Err c.in-Err.field-0) c.requires c.in-Err.ensures.bound c.in-Err.ensures.position)
