-- Which declared types have no finite value.
use Rattle.std.proofs.Common.{◌≡◌, ⊎_elim, ℕ, ◌+◌, ◌<◌, ◌≤◌, zero, suc, Bool, true, false, List, [], ◌∷◌, map, Option, Some, None, length, refl, ap, sym, subst, ◌∙◌, arith, get_or, not}
use Rattle.std.specs.Prelude.{slice_get, nat_lt}
use Rattle.std.specs.List.{list_all}
use Rattle.std.proofs.lemmas.Bool.{and_parts, ltb-true, cases_lt, both_ways, false_from_ne_true, not-true, not-false}
use Rattle.std.proofs.lemmas.List.{length-map}
use Rattle.std.proofs.lemmas.Option.{slice_get_read}
use Rattle.match_model.specs.declared.Width.{Width}
use Rattle.match_model.specs.Types.{MType, DeclaredItem, NamedType, no_types}
use Rattle.match_model.specs.Declarations.{MItem, MProgram}
use Rattle.match_model.specs.RustTypes.{is_declared}
use Rattle.match_model.specs.Typing.{is_value}
use Rattle.type_table.specs.declared.nodes.Node.{Node}
use Rattle.type_table.specs.declared.entries.Entry.{Entry}
use Rattle.type_table.specs.declared.entries.Entry.TheVariants as entry_kinds
use Rattle.type_table.specs.Nodes.{AreNodes, types_in, type_at}
use Rattle.type_table.specs.Entries.{entry_told, variant_below, entry_below, entry_id, NameThemselves}
use Rattle.type_table.specs.Faults.{IsEndless}
use Rattle.type_table.specs.Possible.{items_in, program_in, TellsValues, lacks_own}
use Rattle.type_table.proofs.NodeLemmas.{map_has}
use Rattle.type_table.proofs.FieldLemmas.{all_at}

-- a mark that is there is found whatever stands behind the last
pub read : (xs : List Bool) (i : ℕ) (x : Bool) → i < length xs → x ≡ get_or xs i x → x ≡ get_or xs i false
read [] i x lt is = absurd (omega arith)
read (y ∷ ys) zero x lt is = is
read (y ∷ ys) (suc i) x lt is = read ys i x (omega arith) is

-- there are no items behind the last
past : (items : List MItem) (i : ℕ) → length items ≤ i → is_declared (slice_get items i) ≡ false
past [] i le = refl
past (x ∷ xs) zero le = absurd (omega arith)
past (x ∷ xs) (suc i) le = past xs i (omega arith)

-- an entry declares a type where it has a number
declared_here : (types : List MType) (e : Entry) (id : ℕ) → entry_id e ≡ Some id → is_declared (Some (entry_told types e).item) ≡ true
declared_here types (entry_kinds.Struct own v) id h = refl
declared_here types (entry_kinds.Enum own name later variants) id h = refl
declared_here types _ id h = absurd cc

id_here : (types : List MType) (e : Entry) → is_declared (Some (entry_told types e).item) ≡ true → (id : ℕ) × (entry_id e ≡ Some id)
id_here types (entry_kinds.Struct own v) h = (own, refl)
id_here types (entry_kinds.Enum own name later variants) h = (own, refl)
id_here types _ h = absurd cc

id_below : (n : ℕ) (e : Entry) (id : ℕ) → entry_below n e ≡ true → entry_id e ≡ Some id → id < n
id_below n (entry_kinds.Struct own v) id below h =
    let same : own ≡ id = cc in
    subst (λ (m : ℕ). m < n) same (ltb-true own n (and_parts (nat_lt own n) (variant_below n v) below).0)
id_below n (entry_kinds.Enum own name later variants) id below h =
    let same : own ≡ id = cc in
    subst (λ (m : ℕ). m < n) same (ltb-true own n (and_parts (nat_lt own n) (list_all (variant_below n) variants.items) below).0)
id_below n _ id below h = absurd cc

module _ (width : Width) (nodes : List Node) (entries : List Entry) (below : list_all (entry_below (length nodes)) entries ≡ true)
    (own : NameThemselves (types_in nodes) entries) (marks : List Bool) (tells : TellsValues false nodes entries marks) where
  abbrev program : MProgram
  program = program_in width nodes entries

  abbrev declared_type : ℕ → MType
  declared_type i = NamedType (DeclaredItem i) no_types

  there : (i : ℕ) (e : Entry) → i < length entries → e ≡ get_or entries i e → slice_get entries i ≡ Some e
  there i e lt is = slice_get_read entries (length entries) i e refl lt is

  item_told : (i : ℕ) (e : Entry) → slice_get entries i ≡ Some e → slice_get program.items i ≡ Some (entry_told (types_in nodes) e).item
  item_told i e at = map_has (λ e. (entry_told (types_in nodes) e).item) entries i e at

  -- a declared type that is not marked has no value
  unmarked_endless : (i : ℕ) (e : Entry) (id : ℕ) → slice_get entries i ≡ Some e → entry_id e ≡ Some id → get_or marks id false ≡ false → IsEndless program i
  unmarked_endless i e id at is unmarked =
      let low : id < length nodes = id_below (length nodes) e id (all_at (entry_below (length nodes)) entries i e below at) is in
      let type : type_at (types_in nodes) id ≡ declared_type i = own i e id at is in
      record {
        declared = ap is_declared (item_told i e at) ∙ declared_here (types_in nodes) e id is;
        endless = λ v. false_from_ne_true (is_value program false (declared_type i) v)
            (λ h. both_ways (get_or marks id false) unmarked (tells.complete width id v low (ap (λ (t : MType). is_value program false t v) type ∙ h)));
      }

  -- a marked one has one
  marked_finite : (i : ℕ) (e : Entry) (id : ℕ) → slice_get entries i ≡ Some e → entry_id e ≡ Some id → get_or marks id false ≡ true → IsEndless program i → ⊥
  marked_finite i e id at is marked endless =
      let type : type_at (types_in nodes) id ≡ declared_type i = own i e id at is in
      both_ways (get_or marks id false)
      (tells.sound width (λ f. absurd (no_true f)) id (λ v. ap (λ (t : MType). is_value program false t v) type ∙ endless.endless v)) marked
    where
      no_true : false ≡ true → ⊥
      no_true f = cc

  pub endless_here : (i : ℕ) (e : Entry) → i < length entries → e ≡ get_or entries i e → lacks_own marks (entry_id e) ≡ true → IsEndless program i
  endless_here i e lt is lacks = by (entry_id e) refl lacks
    where
      by : (o : Option ℕ) → entry_id e ≡ o → lacks_own marks o ≡ true → IsEndless program i
      by None h k = absurd cc
      by (Some id) h k = unmarked_endless i e id (there i e lt is) h (not-true (get_or marks id false) k)

  finite_here : (i : ℕ) (e : Entry) → slice_get entries i ≡ Some e → lacks_own marks (entry_id e) ≡ false → IsEndless program i → ⊥
  finite_here i e at lacks endless =
      let id = id_here (types_in nodes) e (sym (ap is_declared (item_told i e at)) ∙ endless.declared) in
      marked_finite i e id.0 at id.1 (not-false (get_or marks id.0 false) (sym (ap (lacks_own marks) id.1) ∙ lacks)) endless

  -- one item more is not endless
  pub none_more : (i : ℕ) (e : Entry) → i < length entries → e ≡ get_or entries i e → lacks_own marks (entry_id e) ≡ false →
      ((j : ℕ) → j < i → IsEndless program j → ⊥) → (j : ℕ) → j < i + 1 → IsEndless program j → ⊥
  none_more i e lt is lacks before j less endless =
      ⊎_elim (λ low. before j low endless)
      (λ high. let top : j ≡ i = omega arith in finite_here i e (there i e lt is) lacks (subst (IsEndless program) top endless)) (cases_lt j i)

  -- none is, where none of the entries is
  pub none_at_all : (n : ℕ) → length entries ≤ n → ((j : ℕ) → j < n → IsEndless program j → ⊥) → (j : ℕ) → IsEndless program j → ⊥
  none_at_all n le each j endless =
      ⊎_elim (λ low. each j low endless)
      (λ high. let count : length (items_in nodes entries) ≡ length entries = rw length-map refl in
      both_ways (is_declared (slice_get (items_in nodes entries) j)) (past (items_in nodes entries) j (omega (arith, count, high, le))) endless.declared)
      (cases_lt j n)
