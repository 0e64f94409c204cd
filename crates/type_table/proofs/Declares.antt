-- What is put into a set of nodes keeps that they name declared items alone.
use Rattle.std.proofs.Common.{◌≡◌, ℕ, ◌<◌, Bool, true, false, cond, List, [], ◌∷◌, ◌++◌, map, take, length, Option, Some, None, Result, Ok, Err, refl, sym, ap, ◌∙◌, suc, zero, arith, ◌+◌, ◌≤◌, get_or}
use Rattle.std.specs.Prelude.{slice_get, nat_lt, nat_le, option_map, OnOk, if◌then◌else◌}
use Rattle.std.specs.List.{list_any}
use Rattle.indexmap.specs.IndexSet.{insert_key}
use Rattle.std.proofs.lemmas.Bool.{and_parts, leb-true, lt-ltb}
use Rattle.decl_syntax.specs.Items.{ItemTree, kind_view, item_view}
use Rattle.decl_syntax.specs.declared.items.Item.{Item}
use Rattle.type_names.proofs.Places.{front_more, length_front}
use Rattle.type_names.specs.declared.meanings.Meaning.{Meaning}
use Rattle.type_names.specs.declared.meanings.Meaning.TheVariants as meanings
use Rattle.type_names.specs.declared.names.Names.{Names}
use Rattle.type_names.specs.declared.meanings.Owner.TheVariants as owners
use Rattle.type_names.specs.Written.{is_length}
use Rattle.type_names.specs.Views.{means_in, meaning_view}
use Rattle.type_table.specs.declared.nodes.Head.{Head}
use Rattle.type_table.specs.declared.nodes.Node.{Node}
use Rattle.type_table.specs.declared.nodes.Head.TheVariants as heads
use Rattle.type_table.specs.Keeping.{head_declared, meaning_declared, NamesDeclared, Keeps, KeepsWith, KeepsMeant, KeepsNamed, KeepsItem, KeepsItems}
use Rattle.type_table.specs.Readings.{array_length, is_str_base, head_of}
use Rattle.type_table.proofs.NodeLemmas.{get_front, get_next, get_below}
use Rattle.type_table.proofs.EntryLemmas.{all_push}

-- a set of nodes with one more
pub keeps_insert : (eq : Node → Node → Bool) (ks : List Node) (n : Node) → KeepsWith n.head ks (insert_key eq ks n)
keeps_insert eq ks n = by (list_any (eq n) ks)
  where
    by : (b : Bool) → KeepsWith n.head ks (cond b ks (ks ++ n ∷ []))
    by true = record { declared = λ is h all. all }
    by false = record { declared = λ is h all. all_push (λ (m : Node). head_declared is m.head) ks n all h }

-- what follows of what is put in where the call succeeds
pub ok_keeps : {T E : Type 0} {P Q : Type 0} (r : Result T E) → (P → Q) → OnOk r P → OnOk r Q
ok_keeps (Ok x) f h = f h
ok_keeps (Err e) f h = h

-- a head that names no item and has no length
pub keeps_alone : {head : Head} {old new : List Node} → ((is : ℕ → Bool) → head_declared is head ≡ true) → KeepsWith head old new → Keeps old new
keeps_alone here k = record { declared = λ is all. k.declared is (here is) all }

-- names, and then a head
pub keeps_then : {names : Names} {head : Head} {a b c : List Node} → ((is : ℕ → Bool) → head_declared is head ≡ true) → KeepsNamed names a b → KeepsWith head b c → KeepsNamed names a c
keeps_then here f g = record { declared = λ is told all. g.declared is (here is) (f.declared is told all) }

pub keeps_on : {names : Names} {a b c : List Node} → KeepsNamed names a b → Keeps b c → KeepsNamed names a c
keeps_on f g = record { declared = λ is told all. g.declared is (f.declared is told all) }

pub keeps_twice : {names : Names} {a b c : List Node} → KeepsNamed names a b → KeepsNamed names b c → KeepsNamed names a c
keeps_twice f g = record { declared = λ is told all. g.declared is told (f.declared is told all) }

pub keeps_none : {names : Names} (a : List Node) → KeepsNamed names a a
keeps_none a = record { declared = λ is told all. all }

-- names, and then a name with a meaning
meant_declared : (is : ℕ → Bool) (names : Names) (m : Option Meaning) (name : List ℕ) → option_map meaning_view m ≡ means_in names name → NamesDeclared is names → meaning_declared is m ≡ true
meant_declared is names (Some (meanings.Item i)) name e told = told name i (sym e)
meant_declared is names _ name e told = refl

pub keeps_meant : {names : Names} {m : Option Meaning} {a b c : List Node} (name : List ℕ) → option_map meaning_view m ≡ means_in names name → KeepsNamed names a b → KeepsMeant m b c → KeepsNamed names a c
keeps_meant {names} {m} name e f g = record { declared = λ is told all. g.declared is (meant_declared is names m name e told) (f.declared is told all) }

-- a length is below 2^32
pub length_few : (is : ℕ → Bool) (len : Option ℕ) (suffix : List ℕ) (n : ℕ) → Some n ≡ array_length len suffix → head_declared is (heads.Array n) ≡ true
length_few is None suffix n e = absurd cc
length_few is (Some m) suffix n e = by (is_length (Some m) suffix) refl e
  where
    by : (b : Bool) → is_length (Some m) suffix ≡ b → Some n ≡ (if b then Some m else None) → nat_lt n 4294967296 ≡ true
    by true h k =
        let same : n ≡ m = cc in
        let le : m ≤ 4294967295 = leb-true m 4294967295 (and_parts (nat_le m 4294967295) _ h).0 in
        lt-ltb n 4294967296 (omega (arith, same, le))
    by false h k = absurd cc

-- the head of a meaning names an item only where the meaning does
pub head_meant : (is : ℕ → Bool) (sized : Bool) (m : Meaning) (h : Head) → head_of sized m ≡ Some h → meaning_declared is (Some m) ≡ true → head_declared is h ≡ true
head_meant is sized (meanings.Item i) h e k = let same : heads.Named (owners.Item i) ≡ h = cc in ap (head_declared is) (sym same) ∙ k
head_meant is true (meanings.Base b) h e k = by (is_str_base b) e
  where
    by : (c : Bool) → (if c then None else Some (heads.Base b)) ≡ Some h → head_declared is h ≡ true
    by true x = absurd cc
    by false x = let same : heads.Base b ≡ h = cc in ap (head_declared is) (sym same)
head_meant is false (meanings.Base b) h e k = let same : heads.Base b ≡ h = cc in ap (head_declared is) (sym same)
head_meant is sized (meanings.Opaque o) h e k = let same : heads.Opaque o ≡ h = cc in ap (head_declared is) (sym same)
head_meant is sized meanings.Option h e k = let same : heads.Named owners.Option ≡ h = cc in ap (head_declared is) (sym same)
head_meant is sized meanings.Result h e k = let same : heads.Named owners.Result ≡ h = cc in ap (head_declared is) (sym same)

pub keeps_head : (sized : Bool) {m : Meaning} {o : Option Meaning} {h : Head} {old new : List Node} → Some m ≡ o → head_of sized m ≡ Some h → KeepsWith h old new → KeepsMeant o old new
keeps_head sized {m} {o} {h} given e k = record {
  declared = λ is told all. k.declared is (head_meant is sized m h e (ap (meaning_declared is) given ∙ told)) all;
}

pub keeps_broken : {o : Option Meaning} {old new : List Node} → Keeps old new → KeepsMeant o old new
keeps_broken k = record { declared = λ is told all. k.declared is all }

-- one item more
pub items_more : {names : Names} {a b c : List Node} (items : List Item) (i : ℕ) (item : Item) → i < length items → item ≡ get_or items i item →
    KeepsItems names (map item_view (take i items)) a b → KeepsItem names i (kind_view item.kind) b c → KeepsItems names (map item_view (take (i + 1) items)) a c
items_more items i item lt is f g = record {
  declared = λ test told each all.
      g.declared test told (each i (item_view item) here) (f.declared test told (λ j x there. each j x (before j x there)) all);
}
  where
    front : map item_view (take (i + 1) items) ≡ map item_view (take i items) ++ item_view item ∷ []
    front = front_more item_view items i item lt is

    count : length (map item_view (take i items)) ≡ i
    count = length_front item_view items i lt

    here : slice_get (map item_view (take (i + 1) items)) i ≡ Some (item_view item)
    here =
        ap (λ (xs : List ItemTree). slice_get xs i) front
        ∙ (ap (slice_get (map item_view (take i items) ++ item_view item ∷ [])) (sym count) ∙ get_next (map item_view (take i items)) (item_view item) [])

    before : (j : ℕ) (x : ItemTree) → slice_get (map item_view (take i items)) j ≡ Some x → slice_get (map item_view (take (i + 1) items)) j ≡ Some x
    before j x there =
        ap (λ (xs : List ItemTree). slice_get xs j) front
        ∙ (get_front (map item_view (take i items)) (item_view item ∷ []) j (get_below (map item_view (take i items)) j x there) ∙ there)
