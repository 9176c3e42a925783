-- The local identities that a node attaches to remotes (TS 38.351 clause 6.3.2).
use Rattle.std.specs.Prelude.{◌≡◌, ℕ, ◌==◌, Bool, List, Contains}
use Rattle.link_base.specs.declared.names.Remote.{Remote}
use Rattle.link_base.specs.declared.names.LocalId.{LocalId}
use Rattle.bearer_map.specs.declared.ids.Attachment.{Attachment}

-- an attachment of this remote with this local identity
abbrev pub attachment : Remote → LocalId → Attachment
attachment remote id = record { remote = remote; id = id }

-- whether it is this remote's
abbrev pub has_remote : Remote → Attachment → Bool
has_remote remote a = a.remote.0 == remote.0

-- the node attaches this local identity to this remote
abbrev pub IsAttached : List Attachment → Remote → ℕ → Type 0
IsAttached attached remote id = Contains attached (attachment remote (record { 0 = id }))

-- a remote has at most one local identity, and a local identity belongs to at most one remote
pub record AreIds (attached : List Attachment) : Type 0 where
  pub one_id : (remote : Remote) (id other : ℕ) → IsAttached attached remote id → IsAttached attached remote other → id ≡ other
  pub one_remote : (remote other : Remote) (id : ℕ) → IsAttached attached remote id → IsAttached attached other id → remote ≡ other
