-- The law of open direct ports: it holds of the chain that tables open, and each line keeps it.
use Rattle.std.proofs.Common.{◌≡◌, inl, inr, List, [], ◌∷◌, Some, None, refl, sym, ◌∙◌, subst}
use Rattle.std.proofs.lemmas.Bool.{cases_Bool, cond-true, cond-false}
use Rattle.std.proofs.lemmas.Option.{none-some}
use Rattle.link_base.specs.declared.names.Key.{Key}
use Rattle.link_base.specs.declared.names.Remote.{Remote}
use Rattle.link_base.specs.declared.names.Way.TheVariants.{Ul, Dl}
use Rattle.bearer_map.specs.declared.ids.Attachment.{Attachment}
use Rattle.node_model.specs.Feeding.{out_key}
use Rattle.node_model.specs.Names.{NodeName, AtRemote, AtRelay, AtGnb, is_key, is_remote, source}
use Rattle.node_model.specs.State.{Node, Outgoing, id_in, outgoing_at}
use Rattle.node_model.proofs.Finding.{find_passes}
use Rattle.node_model.proofs.Names.{key_is}
use Rattle.chain_model.specs.State.{node_at}
use Rattle.chain_law.proofs.Members.{made_in}
use Rattle.heard_law.specs.Telling.{is_attached_to, of_remote}
use Rattle.tag_law.specs.Laws.{DirectPathsAreOpen}
use Rattle.tag_law.proofs.Lines.{ends_have}
use Rattle.tag_law.proofs.Opens.{IsSent, NodeOpens, opens_steps}
use Rattle.tag_law.proofs.OpensOpened.{found_in, opened_opens}

-- a remote without an identity has no attachment
none_attached : (l : List Attachment) (r : Remote) → id_in l r ≡ None → of_remote r l ≡ []
none_attached [] r none = refl
none_attached (a ∷ l) r none = elim (cases_Bool (is_remote r a.remote)) [
  | inl own ↦ absurd (none-some a.id (sym none ∙ cond-true (is_remote r a.remote) (Some a.id) (id_in l r) own))
  | inr other ↦ cond-false (is_attached_to r a) (a ∷ of_remote r l) (of_remote r l) other
      ∙ none_attached l r (sym (cond-false (is_remote r a.remote) (Some a.id) (id_in l r) other) ∙ none)
]

-- a sending end that a node has is that of a key which it sends
is_sent : (n : Node) (key : Key) (o : Outgoing) → outgoing_at n key ≡ Some o → IsSent n key
is_sent n key o is = subst (IsSent n) (sym (key_is key o.key (find_passes (λ (x : Outgoing). is_key key x.key) n.outgoing o is)))
    (made_in out_key n.outgoing o (found_in (λ (x : Outgoing). is_key key x.key) n.outgoing o is))

no_relay : (key : Key) → source key ≡ AtRelay → ⊥
no_relay key = by key.way
  where
    is_relay : NodeName → Type 0
    is_relay AtRelay = Unit {0}
    is_relay AtGnb = ⊥
    is_relay (AtRemote r) = ⊥

    by : (way : _) → source (record { remote = key.remote; drb = key.drb; way = way }) ≡ AtRelay → ⊥
    by Ul e = subst is_relay (sym e) tt
    by Dl e = subst is_relay (sym e) tt

pub paths_are_open : DirectPathsAreOpen
paths_are_open c up key o there none =
    let has : NodeOpens (node_at c (source key)) = ends_have (λ x n. NodeOpens n) opens_steps opened_opens up (source key) (no_relay key) in
    has.opens key (is_sent (node_at c (source key)) key o there) (none_attached (node_at c (source key)).attached key.remote none)
