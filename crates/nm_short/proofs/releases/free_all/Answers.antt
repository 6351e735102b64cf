use Rattle.std.proofs.Common.{◌≡◌, ◌<◌, true, false, length, refl, ◌∙◌, arith, rules}
use Rattle.std.proofs.lemmas.List.{length-set}
use Rattle.nm_short.specs.Requests.{frees_more}
use Rattle.nm_short.proofs.ReleaseLemmas.{freed_on, freed_end, freed_done}
use Rattle.nm_short.proofs.releases.free_all.Goals as goal

pub loop-at-init : goal.loop-at-init
loop-at-init c = record { count = refl; freed = refl }

pub returns-then-not-frees_more : goal.returns-then-not-frees_more
returns-then-not-frees_more c =
    let ends : frees_more c.in_ok-freed.freed ≡ false = search rules in
    let within : c.loop-at.at < length c.loop-at.files.items = grind arith in
    freed_end c.loop-at.files.items c.loop-at.at c.index_mut.result.now c.free.new.self c.args.server c.args.call.now c.in_ok-freed.freed _ within
    c.index_mut.ensures.value c.in_ok-freed.ensures ends c.loop-at.invariant.freed

pub loop-at-preserved : goal.loop-at-preserved
loop-at-preserved c =
    let more : frees_more c.in_ok-freed.freed ≡ true = search rules in
    let within : c.loop-at.at < length c.loop-at.files.items = grind arith in
    record {
      count = length-set c.loop-at.files.items c.loop-at.at c.free.new.self ∙ c.loop-at.invariant.count;
      freed = freed_on c.loop-at.files.items c.loop-at.at c.index_mut.result.now c.free.new.self c.args.server c.args.call.now c.in_ok-freed.freed _ within
          c.index_mut.ensures.value c.in_ok-freed.ensures more c.loop-at.invariant.freed;
    }

pub returns : goal.returns
returns c = freed_done c.loop-at.files.items c.loop-at.at c.args.server c.args.call.now _ (grind arith) c.loop-at.invariant.freed
