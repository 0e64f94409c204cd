-- No meaning: that the heads of nodes name only items that declare a type, and that lengths are below 2^32, whatever is put in. A
-- test tells of each item whether it declares one.
use Rattle.std.specs.Prelude.{◌≡◌, ◌^◌, ℕ, Bool, true, List, nat_lt, is_some, slice_get, Option, Some}
use Rattle.std.specs.List.{list_all}
use Rattle.decl_syntax.specs.Items.{KindTree, ItemTree}
use Rattle.type_names.specs.declared.meanings.Meaning.{Meaning}
use Rattle.type_names.specs.declared.meanings.Meaning.TheVariants as meanings
use Rattle.type_names.specs.declared.meanings.Owner.TheVariants as owners
use Rattle.type_names.specs.declared.names.Names as declared_names
use Rattle.type_names.specs.Meanings.{ItemName}
use Rattle.type_names.specs.Views.{means_in}
use Rattle.type_table.specs.declared.nodes.Head.{Head}
use Rattle.type_table.specs.declared.nodes.Head.TheVariants as heads
use Rattle.type_table.specs.declared.nodes.Node.{Node}
use Rattle.type_table.specs.Entries.{own_type}

-- the head names an item only where the test says so, and its length is below 2^32
abbrev pub head_declared : (is : ℕ → Bool) → Head → Bool
head_declared is (heads.Array len) = nat_lt len (2 ^ 32)
head_declared is (heads.Named (owners.Item i)) = is i
head_declared is _ = true

-- so do the heads of the nodes
abbrev pub AreDeclared : (is : ℕ → Bool) → List Node → Type 0
AreDeclared is nodes = list_all (λ n. head_declared is n.head) nodes ≡ true

-- the meaning is an item only where the test says so
abbrev pub meaning_declared : (is : ℕ → Bool) → Option Meaning → Bool
meaning_declared is (Some (meanings.Item i)) = is i
meaning_declared is _ = true

-- names mean an item only where the test says so
abbrev pub NamesDeclared : (is : ℕ → Bool) → declared_names.Names → Type 0
NamesDeclared is names = (name : List ℕ) (i : ℕ) → means_in names name ≡ Some (ItemName i) → is i ≡ true

-- what is put in keeps this
pub record Keeps (old new : List Node) : Type 0 where
  pub declared : (is : ℕ → Bool) → AreDeclared is old → AreDeclared is new

-- the same where a node with this head is put in
pub record KeepsWith (head : Head) (old new : List Node) : Type 0 where
  pub declared : (is : ℕ → Bool) → head_declared is head ≡ true → AreDeclared is old → AreDeclared is new

-- the same where a type whose name has this meaning is put in
pub record KeepsMeant (meaning : Option Meaning) (old new : List Node) : Type 0 where
  pub declared : (is : ℕ → Bool) → meaning_declared is meaning ≡ true → AreDeclared is old → AreDeclared is new

-- the same where types with such names are put in
pub record KeepsNamed (names : declared_names.Names) (old new : List Node) : Type 0 where
  pub declared : (is : ℕ → Bool) → NamesDeclared is names → AreDeclared is old → AreDeclared is new

-- an item declares a type only where the test says so
abbrev pub ItemDeclared : (is : ℕ → Bool) → (i : ℕ) → KindTree → Type 0
ItemDeclared is i kind = is_some (own_type i kind) ≡ true → is i ≡ true

-- the same where an item with such names is put in
pub record KeepsItem (names : declared_names.Names) (i : ℕ) (kind : KindTree) (old new : List Node) : Type 0 where
  pub declared : (is : ℕ → Bool) → NamesDeclared is names → ItemDeclared is i kind → AreDeclared is old → AreDeclared is new

-- the same where items with such names are put in
pub record KeepsItems (names : declared_names.Names) (items : List ItemTree) (old new : List Node) : Type 0 where
  pub declared : (is : ℕ → Bool) → NamesDeclared is names → ((i : ℕ) (x : ItemTree) → slice_get items i ≡ Some x → ItemDeclared is i x.kind) →
      AreDeclared is old → AreDeclared is new
