-- Rows that are found and set by their names.
use Rattle.std.proofs.Common.{◌≡◌, Bool, true, false, refl, sym, ◌∙◌, ap}
use Rattle.node_model.specs.Names.{is_port, is_key, is_node}
use Rattle.node_model.specs.Places.{TellsApart, SetsByName, side_name, outgoing_key, incoming_key, node_name}
use Rattle.node_model.proofs.Names.{port_is, port_refl, port_apart, key_is, key_refl, key_apart, node_is, node_refl, node_apart}
use Rattle.node_model.proofs.Finding.{find_passes, find_hit, find_miss, find_none}

-- a test that names pass with themselves alone
tells_apart : {Name : Type 0} (is_name : Name → Name → Bool) → ((a b : Name) → is_name a b ≡ true → a ≡ b) → ((a : Name) → is_name a a ≡ true) → TellsApart is_name
tells_apart is_name is itself a b = (is a b, λ e. ap (is_name a) (sym e) ∙ itself a)

pub ports_apart : TellsApart is_port
ports_apart = tells_apart is_port port_is port_refl

pub keys_apart : TellsApart is_key
keys_apart = tells_apart is_key key_is key_refl

pub nodes_apart : TellsApart is_node
nodes_apart = tells_apart is_node node_is node_refl

module _ {Row Name : Type 0} (is_name : Name → Name → Bool) (name_of : Row → Name) (is : (a b : Name) → is_name a b ≡ true → a ≡ b) (itself : (a : Name) → is_name a a ≡ true)
    (apart : (a b : Name) → (a ≡ b → ⊥) → is_name a b ≡ false) where
  sets_by_name : SetsByName is_name name_of
  sets_by_name = record {
    named = λ rows name row found. sym (is name (name_of row) (find_passes (λ (x : Row). is_name name (name_of x)) rows row found));
    own = λ rows row old found. find_hit (λ (x : Row). is_name (name_of row) (name_of x)) (λ (x : Row). is_name (name_of row) (name_of x)) row (λ x. refl) (itself (name_of row)) rows old found;
    none = λ rows row found. find_none (λ (x : Row). is_name (name_of row) (name_of x)) row rows found;
    others = λ rows row name ne. find_miss (λ (x : Row). is_name name (name_of x)) (λ (x : Row). is_name (name_of row) (name_of x)) row
        (λ x mine. apart name (name_of x) (λ e. ne (is (name_of row) (name_of x) mine ∙ sym e))) (apart name (name_of row) (λ e. ne (sym e))) rows;
  }

pub sides_set : SetsByName is_port side_name
sides_set = sets_by_name is_port side_name port_is port_refl port_apart

pub outgoing_set : SetsByName is_key outgoing_key
outgoing_set = sets_by_name is_key outgoing_key key_is key_refl key_apart

pub incoming_set : SetsByName is_key incoming_key
incoming_set = sets_by_name is_key incoming_key key_is key_refl key_apart

pub nodes_set : SetsByName is_node node_name
nodes_set = sets_by_name is_node node_name node_is node_refl node_apart
