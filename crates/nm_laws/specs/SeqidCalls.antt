-- The operations that take a seqid of their owner, so that they may come again (RFC 7530, 9.1.7).
use Rattle.std.specs.Prelude.{Bool, true, false}
use Rattle.nm_types.specs.declared.calls.Deed.{Deed}
use Rattle.nm_types.specs.declared.calls.Deed.TheVariants as deed

abbrev pub takes_seqid : Deed → Bool
takes_seqid (deed.Close _) = true
takes_seqid (deed.Lock _) = true
takes_seqid (deed.Open _) = true
takes_seqid (deed.OpenConfirm _) = true
takes_seqid (deed.OpenDowngrade _) = true
takes_seqid (deed.Unlock _) = true
takes_seqid _ = false
