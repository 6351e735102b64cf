-- Which value a result has, by its operation and its status (RFC 7530, 16; RFC 7531, nfs_resop4).
use Rattle.std.specs.Prelude.{ℕ, Bool, ◌==◌, ◌&&◌, ◌||◌, nat_le, List, [], ◌∷◌, Option, Some, None, find, if◌then◌else◌}
use Rattle.nm_types.specs.declared.status.OpStatus.{OpStatus}
use Rattle.nm_types.specs.declared.status.OpStatus.TheVariants.{Nfs4Ok, Denied, ClidInUse, OpIllegal}
use Rattle.nm_results.specs.declared.arms.Arm.{Arm}
use Rattle.nm_results.specs.declared.arms.Arm.TheVariants as arm

-- the operations that have results: those of NFSv4.0, and OP_ILLEGAL
unfoldable pub is_op : ℕ → Bool
is_op op = (nat_le 3 op && nat_le op 39) || (op == 10044)

-- an operation, and the value that it has with OK
abbrev pub Row : Type 0
Row = ℕ × Arm

-- The operations that are served. DELEGPURGE 7, LINK 11, NVERIFY 17, OPENATTR 19, READLINK 27, RENAME 29, SECINFO 33 and
-- VERIFY 37 aren't, so they have no OK. SETATTR 34 has its value with every status.
unfoldable pub served : List Row
served =
    (3, arm.Access) ∷ (4, arm.Close) ∷ (5, arm.Commit) ∷ (6, arm.Create) ∷ (8, arm.Nothing)
    ∷ (9, arm.GetAttr) ∷ (10, arm.GetFh) ∷ (12, arm.Lock) ∷ (13, arm.Nothing) ∷ (14, arm.LockU)
    ∷ (15, arm.Nothing) ∷ (16, arm.Nothing) ∷ (18, arm.Open) ∷ (20, arm.OpenConfirm) ∷ (21, arm.OpenDowngrade)
    ∷ (22, arm.Nothing) ∷ (23, arm.Nothing) ∷ (24, arm.Nothing) ∷ (25, arm.Read) ∷ (26, arm.ReadDir)
    ∷ (28, arm.Remove) ∷ (30, arm.Nothing) ∷ (31, arm.Nothing) ∷ (32, arm.Nothing) ∷ (34, arm.SetAttr)
    ∷ (35, arm.SetClientId) ∷ (36, arm.Nothing) ∷ (38, arm.Write) ∷ (39, arm.Nothing) ∷ []

abbrev pub arm_in : Option Row → Option Arm
arm_in None = None
arm_in (Some row) = Some row.1

unfoldable pub ok_arm : ℕ → Option Arm
ok_arm op = arm_in (find (λ row. row.0 == op) served)

-- A failure has no value but SETATTR's. OP_ILLEGAL has one status alone.
unfoldable pub failed_arm : ℕ → Option Arm
failed_arm op = if op == 34 then Some arm.SetAttr else if op == 10044 then None else Some arm.Nothing

-- LOCK and LOCKT tell the lock that is in the way.
unfoldable pub denied_arm : ℕ → Option Arm
denied_arm op = if (op == 12) || (op == 13) then Some arm.Denied else failed_arm op

-- SETCLIENTID tells the client that uses the name.
unfoldable pub in_use_arm : ℕ → Option Arm
in_use_arm op = if op == 35 then Some arm.ClientInUse else failed_arm op

unfoldable pub illegal_arm : ℕ → Option Arm
illegal_arm op = if op == 10044 then Some arm.Nothing else failed_arm op

-- The value of an operation with a status. None where it can't have this status.
unfoldable pub arm_of : ℕ → OpStatus → Option Arm
arm_of op Nfs4Ok = ok_arm op
arm_of op Denied = denied_arm op
arm_of op ClidInUse = in_use_arm op
arm_of op OpIllegal = illegal_arm op
arm_of op _ = failed_arm op
