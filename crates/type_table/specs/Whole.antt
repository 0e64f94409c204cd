-- What a table keeps: its numbers are its own, one for each type, its types are of its program, and it tells which of them have values at sure places.
use Rattle.std.specs.Prelude.{◌≡◌, ◌<◌, ℕ, Bool, true, false, List, length, slice_index_or}
use Rattle.std.specs.List.{All, list_all}
use Rattle.std.specs.Coded.{Unit-prop}
use Rattle.std.proofs.Props.{props}
use Rattle.match_model.specs.declared.Width.{Width}
use Rattle.match_model.specs.Values.{MValue}
use Rattle.match_model.specs.Typing.{is_value}
use Rattle.type_table.specs.declared.nodes.Node.{Node}
use Rattle.type_table.specs.declared.entries.Entry.{Entry}
use Rattle.type_table.specs.declared.entries.Entry.TheVariants as kinds
use Rattle.type_table.specs.Nodes.{AreNodes, types_in, type_at}
use Rattle.type_table.specs.Entries.{entry_below}
use Rattle.type_table.specs.Known.{IsKnown, IsFew}
use Rattle.type_table.specs.Possible.{program_in, AreFinite, TellsValues}

-- what a table with these nodes, items and values keeps
pub record IsWhole (nodes : List Node) (entries : List Entry) (marks : List Bool) : Type 0 where
  pub are : AreNodes nodes
  pub one : (i j : ℕ) → i < length nodes → j < length nodes → type_at (types_in nodes) i ≡ type_at (types_in nodes) j → i ≡ j
  pub below : list_all (entry_below (length nodes)) entries ≡ true
  pub known : All (IsKnown entries) nodes
  pub few : All IsFew entries
  pub values : TellsValues true nodes entries marks

IsFew-prop : (e : Entry) → IsProp (IsFew e)
IsFew-prop (kinds.Struct id variant) = Prim.hlevel props
IsFew-prop (kinds.Enum id name later variants) = Prim.hlevel props
IsFew-prop (kinds.Function param deref) = Unit-prop
IsFew-prop kinds.Import = Unit-prop

TellsValues-prop : (nodes : List Node) (entries : List Entry) (marks : List Bool) → IsProp (TellsValues true nodes entries marks)
TellsValues-prop nodes entries marks x y =
    let len_prop : IsProp (length marks ≡ length nodes) = hlevel props in
    let complete_prop : IsProp ((width : Width) (n : ℕ) (v : MValue) → n < length nodes → is_value (program_in width nodes entries) true (type_at (types_in nodes) n) v ≡ true → slice_index_or marks n false ≡ true) = hlevel props in
    let sound_prop : IsProp ((width : Width) → (true ≡ true → AreFinite (program_in width nodes entries) (types_in nodes)) → (n : ℕ) → ((v : MValue) → is_value (program_in width nodes entries) true (type_at (types_in nodes) n) v ≡ false) → slice_index_or marks n false ≡ false) = hlevel props in
    λ i. record {
      len = len_prop x.len y.len i;
      complete = complete_prop x.complete y.complete i;
      sound = sound_prop x.sound y.sound i;
    }

-- it has at most one proof
pub IsWhole-prop : (nodes : List Node) (entries : List Entry) (marks : List Bool) → IsProp (IsWhole nodes entries marks)
IsWhole-prop nodes entries marks x y =
    let are_prop : IsProp (AreNodes nodes) = hlevel props in
    let one_prop : IsProp ((i j : ℕ) → i < length nodes → j < length nodes → type_at (types_in nodes) i ≡ type_at (types_in nodes) j → i ≡ j) = hlevel props in
    let below_prop : IsProp (list_all (entry_below (length nodes)) entries ≡ true) = hlevel props in
    let known_prop : IsProp (All (IsKnown entries) nodes) = hlevel props in
    let few_prop : IsProp (All IsFew entries) = hlevel (props, IsFew-prop) in
    λ i. record {
      are = are_prop x.are y.are i;
      one = one_prop x.one y.one i;
      below = below_prop x.below y.below i;
      known = known_prop x.known y.known i;
      few = few_prop x.few y.few i;
      values = TellsValues-prop nodes entries marks x.values y.values i;
    }
