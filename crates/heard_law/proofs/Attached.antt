-- What attachments of one remote are, in a list of those of all remotes, and behind a change of path.
use Rattle.std.proofs.Common.{◌≡◌, inl, inr, ◌<◌, Bool, true, false, cond, not, ◌||◌, List, [], ◌∷◌, ◌++◌, filter, flat_map, find, option_map, append-nil, Option, Some, refl, sym, ◌∙◌, ap, subst, arith}
use Rattle.std.specs.List.{AllByRecursion, list_any}
use Rattle.std.specs.Option.{unwrap_or}
use Rattle.std.proofs.lemmas.Bool.{cases_Bool, cond-true, cond-false, true≢false, false≢true}
use Rattle.link_base.specs.declared.names.Goal.{Goal}
use Rattle.link_base.specs.declared.names.Goal.TheVariants.{Direct as ToDirect, Relay as ToRelay}
use Rattle.link_base.specs.declared.names.Remote.{Remote}
use Rattle.bearer_map.specs.declared.ids.Attachment.{Attachment}
use Rattle.bearer_map.specs.declared.rows.RemoteRow.{RemoteRow}
use Rattle.bearer_map.specs.Contents.{Contents, remote_rank}
use Rattle.bearer_map.specs.Order.{IsAscending}
use Rattle.node_model.specs.Names.{NodeName, AtRemote, AtRelay, AtGnb, is_remote}
use Rattle.node_model.specs.Opening.{attachments}
use Rattle.node_model.specs.Switching.{attached_after}
use Rattle.node_model.specs.Tables.{has_remote}
use Rattle.node_model.proofs.Names.{remote_is, remote_refl, remote_apart, cases_remote}
use Rattle.heard_law.specs.Telling.{is_attached_to, of_remote}

-- the attachments of two lists
pub of_append : (r : Remote) (xs ys : List Attachment) → of_remote r (xs ++ ys) ≡ of_remote r xs ++ of_remote r ys
of_append r [] ys = refl
of_append r (x ∷ xs) ys = elim (cases_Bool (is_attached_to r x)) [
  | inl p ↦ cond-true (is_attached_to r x) (x ∷ of_remote r (xs ++ ys)) (of_remote r (xs ++ ys)) p ∙ ap (λ (l : List Attachment). x ∷ l) (of_append r xs ys)
      ∙ ap (λ (l : List Attachment). l ++ of_remote r ys) (sym (cond-true (is_attached_to r x) (x ∷ of_remote r xs) (of_remote r xs) p))
  | inr f ↦ cond-false (is_attached_to r x) (x ∷ of_remote r (xs ++ ys)) (of_remote r (xs ++ ys)) f ∙ of_append r xs ys
      ∙ ap (λ (l : List Attachment). l ++ of_remote r ys) (sym (cond-false (is_attached_to r x) (x ∷ of_remote r xs) (of_remote r xs) f))
]

either_none : (b : Bool) → ◌≡◌ {A = List Attachment} [] (cond b [] [])
either_none true = refl
either_none false = refl

-- those of one remote
pub of_own : (r q : Remote) (goal : Goal) → of_remote r (attachments q goal) ≡ cond (is_remote r q) (attachments r goal) []
of_own r q ToDirect = either_none (is_remote r q)
of_own r q (ToRelay id) = elim (cases_Bool (is_remote r q)) [
  | inl p ↦ cond-true (is_remote r q) (attachments q (ToRelay id)) [] p ∙ ap (λ (x : Remote). attachments x (ToRelay id)) (sym (remote_is r q p)) ∙ sym (cond-true (is_remote r q) (attachments r (ToRelay id)) [] p)
  | inr f ↦ cond-false (is_remote r q) (attachments q (ToRelay id)) [] f ∙ sym (cond-false (is_remote r q) (attachments r (ToRelay id)) [] f)
]

-- a remote of another rank is another
higher_apart : (r : Remote) (rows : List RemoteRow) → AllByRecursion (λ (row : RemoteRow). r.0 < row.remote.0) rows
    → list_any (λ (row : RemoteRow). is_remote r row.remote) rows ≡ false
higher_apart r [] all = refl
higher_apart r (row ∷ rows) all = ap (λ (b : Bool). b || list_any (λ (row : RemoteRow). is_remote r row.remote) rows) (remote_apart r row.remote (λ e. omega (arith, all.0, ap (λ (x : Remote). x.0) e))) ∙ higher_apart r rows all.1

-- the path of the first row of a remote
abbrev pub first_of : (RemoteRow → Goal) → Remote → List RemoteRow → Goal
first_of goal r rows = unwrap_or (option_map goal (find (λ (row : RemoteRow). is_remote r row.remote) rows)) ToDirect

-- those of all remotes, each by the path of its row
pub of_rows : (r : Remote) (goal : RemoteRow → Goal) (rows : List RemoteRow) → IsAscending remote_rank rows
    → of_remote r (flat_map (λ (row : RemoteRow). attachments row.remote (goal row)) rows) ≡ cond (list_any (λ (row : RemoteRow). is_remote r row.remote) rows) (attachments r (first_of goal r rows)) []
of_rows r goal [] up = refl
of_rows r goal (row ∷ rows) up = of_append r (attachments row.remote (goal row)) (flat_map (λ (row : RemoteRow). attachments row.remote (goal row)) rows)
    ∙ ap (λ (l : List Attachment). l ++ rest) (of_own r row.remote (goal row)) ∙ ap (λ (l : List Attachment). cond (is_remote r row.remote) (attachments r (goal row)) [] ++ l) (of_rows r goal rows up.1)
    ∙ elim (cases_Bool (is_remote r row.remote)) [
      | inl p ↦
          let none : list_any (λ (row : RemoteRow). is_remote r row.remote) rows ≡ false = higher_apart r rows (subst (λ (x : Remote). AllByRecursion (λ (row : RemoteRow). x.0 < row.remote.0) rows) (sym (remote_is r row.remote p)) up.0) in
          ap (λ (b : Bool). cond (is_remote r row.remote) (attachments r (goal row)) [] ++ cond b (attachments r (first_of goal r rows)) []) none
          ∙ ap (λ (l : List Attachment). l ++ []) (cond-true (is_remote r row.remote) (attachments r (goal row)) [] p)
          ∙ append-nil (attachments r (goal row))
          ∙ sym (ap (λ (b : Bool). cond (b || list_any (λ (row : RemoteRow). is_remote r row.remote) rows) (attachments r (unwrap_or (option_map goal (cond b (Some row) (find (λ (row : RemoteRow). is_remote r row.remote) rows))) ToDirect)) []) p)
      | inr f ↦ ap (λ (l : List Attachment). l ++ cond (list_any (λ (row : RemoteRow). is_remote r row.remote) rows) (attachments r (first_of goal r rows)) []) (cond-false (is_remote r row.remote) (attachments r (goal row)) [] f)
          ∙ sym (ap (λ (b : Bool). cond (b || list_any (λ (row : RemoteRow). is_remote r row.remote) rows) (attachments r (unwrap_or (option_map goal (cond b (Some row) (find (λ (row : RemoteRow). is_remote r row.remote) rows))) ToDirect)) []) f)
    ]
  where
    rest : List Attachment
    rest = of_remote r (flat_map (λ (row : RemoteRow). attachments row.remote (goal row)) rows)

-- a path that is a remote's is that of its first row
pub first_path : (r : Remote) (path : Remote → Goal) (rows : List RemoteRow) → list_any (λ (row : RemoteRow). is_remote r row.remote) rows ≡ true
    → first_of (λ (row : RemoteRow). path row.remote) r rows ≡ path r
first_path r path [] none = absurd (false≢true none)
first_path r path (row ∷ rows) some = elim (cases_Bool (is_remote r row.remote)) [
  | inl p ↦ ap (λ (o : Option RemoteRow). unwrap_or (option_map (λ (row : RemoteRow). path row.remote) o) ToDirect) (cond-true (is_remote r row.remote) (Some row) _ p) ∙ ap path (sym (remote_is r row.remote p))
  | inr f ↦ ap (λ (o : Option RemoteRow). unwrap_or (option_map (λ (row : RemoteRow). path row.remote) o) ToDirect) (cond-false (is_remote r row.remote) (Some row) _ f)
      ∙ first_path r path rows (sym (ap (λ (b : Bool). b || list_any (λ (row : RemoteRow). is_remote r row.remote) rows) f) ∙ some)
]

-- those of all remotes, each by its path
pub of_paths : (r : Remote) (path : Remote → Goal) (rows : List RemoteRow) → IsAscending remote_rank rows
    → of_remote r (flat_map (λ (row : RemoteRow). attachments row.remote (path row.remote)) rows) ≡ cond (list_any (λ (row : RemoteRow). is_remote r row.remote) rows) (attachments r (path r)) []
of_paths r path rows up = of_rows r (λ (row : RemoteRow). path row.remote) rows up ∙ elim (cases_Bool (list_any (λ (row : RemoteRow). is_remote r row.remote) rows)) [
  | inl some ↦ ap (λ (g : Goal). cond (list_any (λ (row : RemoteRow). is_remote r row.remote) rows) (attachments r g) []) (first_path r path rows some)
  | inr none ↦ cond-false (list_any (λ (row : RemoteRow). is_remote r row.remote) rows) (attachments r (first_of (λ (row : RemoteRow). path row.remote) r rows)) [] none
      ∙ sym (cond-false (list_any (λ (row : RemoteRow). is_remote r row.remote) rows) (attachments r (path r)) [] none)
]

-- a node can attach something to a remote: the remote's own node can, and the relay and the gNB to each remote of the tables
abbrev pub can_attach : Contents → NodeName → Remote → Bool
can_attach t (AtRemote q) r = is_remote r q
can_attach t AtRelay r = has_remote t r
can_attach t AtGnb r = has_remote t r

-- what is kept once the attachments of a remote were dropped
pub of_dropped : (r q : Remote) (xs : List Attachment) → of_remote r (filter (λ (a : Attachment). not (is_remote q a.remote)) xs) ≡ cond (is_remote r q) [] (of_remote r xs)
of_dropped r q [] = either_none (is_remote r q)
of_dropped r q (x ∷ xs) = elim (cases_Bool (is_remote q x.remote)) [
  | inl p ↦ ap (λ (b : Bool). of_remote r (cond (not b) (x ∷ filter (λ (a : Attachment). not (is_remote q a.remote)) xs) (filter (λ (a : Attachment). not (is_remote q a.remote)) xs))) p
      ∙ of_dropped r q xs ∙ elim (cases_remote r q) [
        | inl same ↦ ap (λ (b : Bool). cond b [] (of_remote r xs)) (ap (is_remote r) (sym same) ∙ remote_refl r) ∙ sym (ap (λ (b : Bool). cond b [] (of_remote r (x ∷ xs))) (ap (is_remote r) (sym same) ∙ remote_refl r))
        | inr ne ↦ ap (cond (is_remote r q) []) (sym (cond-false (is_attached_to r x) (x ∷ of_remote r xs) (of_remote r xs) (remote_apart r x.remote (λ e. ne (e ∙ sym (remote_is q x.remote p))))))
      ]
  | inr f ↦ ap (λ (b : Bool). of_remote r (cond (not b) (x ∷ filter (λ (a : Attachment). not (is_remote q a.remote)) xs) (filter (λ (a : Attachment). not (is_remote q a.remote)) xs))) f
      ∙ elim (cases_Bool (is_attached_to r x)) [
        | inl mine ↦ cond-true (is_attached_to r x) (x ∷ of_remote r kept) (of_remote r kept) mine ∙ ap (λ (l : List Attachment). x ∷ l) (of_dropped r q xs)
            ∙ other mine f
        | inr not_mine ↦ cond-false (is_attached_to r x) (x ∷ of_remote r kept) (of_remote r kept) not_mine ∙ of_dropped r q xs
            ∙ ap (cond (is_remote r q) []) (sym (cond-false (is_attached_to r x) (x ∷ of_remote r xs) (of_remote r xs) not_mine))
      ]
]
  where
    kept : List Attachment
    kept = filter (λ (a : Attachment). not (is_remote q a.remote)) xs

    other : is_attached_to r x ≡ true → is_remote q x.remote ≡ false → x ∷ cond (is_remote r q) [] (of_remote r xs) ≡ cond (is_remote r q) [] (of_remote r (x ∷ xs))
    other mine f =
        let apart : is_remote r q ≡ false = remote_apart r q (λ e. true≢false (sym (ap (λ (y : Remote). is_remote y x.remote) (sym e) ∙ mine) ∙ f)) in
        ap (λ (b : Bool). x ∷ cond b [] (of_remote r xs)) apart ∙ sym (cond-true (is_attached_to r x) (x ∷ of_remote r xs) (of_remote r xs) mine)
        ∙ sym (ap (λ (b : Bool). cond b [] (of_remote r (x ∷ xs))) apart)

-- and once it has this path
pub of_switched : (r q : Remote) (goal : Goal) (xs : List Attachment) → of_remote r (attached_after q goal xs) ≡ cond (is_remote r q) (attachments r goal) (of_remote r xs)
of_switched r q goal xs = of_append r (filter (λ (a : Attachment). not (is_remote q a.remote)) xs) (attachments q goal)
    ∙ ap (λ (l : List Attachment). l ++ of_remote r (attachments q goal)) (of_dropped r q xs) ∙ ap (λ (l : List Attachment). cond (is_remote r q) [] (of_remote r xs) ++ l) (of_own r q goal)
    ∙ by (is_remote r q)
  where
    by : (b : Bool) → cond b [] (of_remote r xs) ++ cond b (attachments r goal) [] ≡ cond b (attachments r goal) (of_remote r xs)
    by true = refl
    by false = append-nil (of_remote r xs)
