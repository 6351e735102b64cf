-- What is written is read again.
use Rattle.std.proofs.Common.{◌≡◌, ℕ, ◌^◌, ◌≤◌, ◌<◌, false, [], length, drop, Ok, refl, arith}
use Rattle.nm_xdr.specs.Items.{word, opaque, fixed, padding_of}
use Rattle.nm_rpc.specs.Messages.{header, IsHeader}
use Rattle.nm_rpc.specs.Replies.{done, accepted, reply, reply_of}
use Rattle.nm_rpc.specs.declared.replies.ReplyOutcome.TheVariants.{Success}
use Rattle.nm_rpc.proofs.ReplyLaws.{said_again}
use Rattle.nm_types.specs.declared.status.OpStatus.{OpStatus}
use Rattle.nm_types.specs.declared.calls.StateId.{StateId}
use Rattle.nm_types.specs.declared.wire.Handle.{Handle}
use Rattle.nm_callback.specs.declared.callback.Callback.TheVariants.{Recall}
use Rattle.nm_callback.specs.Callbacks.{recalls, compound, written_header, recall, result_body, callback_reply, callback_of, IsCallback, CanBeRecalled}
use Rattle.nm_callback.proofs.OpeningLaws.{IsOpening}
use Rattle.nm_callback.proofs.ReadLaws.{callback_again}

pub header_fits : (xid program : ℕ) → xid < 2 ^ 32 → program < 2 ^ 32 → IsHeader (written_header xid program)
header_fits xid program x p = record {
  xid = x;
  kind = omega arith;
  rpc_version = omega arith;
  program = p;
  version = omega arith;
  procedure = omega arith;
  flavor = omega arith;
  credential = omega arith;
  verifier_flavor = omega arith;
  verifier = omega arith;
}

pub written_opening : (xid program : ℕ) → xid < 2 ^ 32 → program < 2 ^ 32 → IsOpening (written_header xid program)
written_opening xid program x p = record { fits = header_fits xid program x p; kind = refl; rpc_version = refl; version = refl; procedure = omega arith }

-- A recall is a callback that is told as what was written.
pub recall_is : (xid program ident : ℕ) (state : StateId) (handle : Handle) → CanBeRecalled xid program ident state handle
    → IsCallback (Recall xid ident state handle) (recall xid program ident state handle)
unfolding recall
recall_is xid program ident state handle can = record {
  items = written_header xid program;
  behind = compound [] 0 ident (recalls state false handle);
  spelled = refl;
  fits = header_fits xid program can.is_xid can.is_program;
  kind = refl;
  rpc_version = refl;
  version = refl;
  procedure = refl;
  is_body = (omega arith, omega arith, can.is_ident, (can.is_state, can.is_handle));
  is_told = refl;
}

pub recall_read : (xid program ident : ℕ) (state : StateId) (handle : Handle) → CanBeRecalled xid program ident state handle
    → callback_of (recall xid program ident state handle) ≡ Ok (Recall xid ident state handle)
recall_read xid program ident state handle can = callback_again (Recall xid ident state handle) (recall xid program ident state handle) (recall_is xid program ident state handle can)

-- ---- Replies

pub reply_read : (xid op : ℕ) (status : OpStatus) → xid < 2 ^ 32 → reply_of (callback_reply xid op status) ≡ Ok (record { xid = xid; outcome = Success 24 })
unfolding callback_reply
reply_read xid op status small = said_again xid (done (result_body op status)) small tt

pub reply_body : (xid op : ℕ) (status : OpStatus) → drop 24 (callback_reply xid op status) ≡ result_body op status
unfolding callback_reply reply accepted word opaque fixed padding_of
reply_body xid op status = refl
