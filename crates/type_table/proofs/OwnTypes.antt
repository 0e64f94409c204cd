-- Each item that declares a type has the number of its own.
use Rattle.std.proofs.Common.{◌≡◌, ℕ, ◌+◌, List, [], ◌∷◌, map, Some, None, Option, sym, ap, subst, ◌∙◌, suc, zero, arith}
use Rattle.std.specs.Prelude.{slice_get}
use Rattle.std.specs.List.{enumerate_from}
use Rattle.match_model.specs.Types.{DeclaredItem, MType, NamedType, no_types}
use Rattle.decl_syntax.specs.Items.{KindTree, Enum, Struct, Import, Function, ItemTree}
use Rattle.type_names.specs.Meanings.{Means}
use Rattle.type_table.specs.declared.entries.Entry.{Entry}
use Rattle.type_table.specs.declared.entries.Entry.TheVariants as entries
use Rattle.type_table.specs.Nodes.{type_at}
use Rattle.type_table.specs.Entries.{Told, entry_told, entry_id, own_type, item_told, items_told, NameThemselves}
use Rattle.type_table.proofs.NodeLemmas.{map_has}
use Rattle.type_table.proofs.ByValue.{mapped}

own_of : (types : List MType) (e : Entry) (id : ℕ) → entry_id e ≡ Some id → (entry_told types e).own ≡ Some (type_at types id)
own_of types (entries.Struct own v) id h = let same : own ≡ id = cc in ap (λ (n : ℕ). Some (type_at types n)) same
own_of types (entries.Enum own name later variants) id h = let same : own ≡ id = cc in ap (λ (n : ℕ). Some (type_at types n)) same
own_of types _ id h = absurd cc

declared_own : (i : ℕ) (k : KindTree) (t : MType) → own_type i k ≡ Some t → t ≡ NamedType (DeclaredItem i) no_types
declared_own i (Enum name variants) t h = cc
declared_own i (Struct name form) t h = cc
declared_own i _ t h = absurd cc

numbered : (n : ℕ) (xs : List ItemTree) (i : ℕ) (p : ℕ × ItemTree) → slice_get (enumerate_from n xs) i ≡ Some p → p.0 ≡ n + i
numbered n [] i p h = absurd cc
numbered n (x ∷ xs) zero p h =
    let same : n ≡ p.0 = ap (first n) h in
    omega (arith, same)
  where
    first : ℕ → Option (ℕ × ItemTree) → ℕ
    first m None = m
    first m (Some q) = q.0
numbered n (x ∷ xs) (suc i) p h = let rest : p.0 ≡ (n + 1) + i = numbered (n + 1) xs i p h in omega (arith, rest)

pub own_types : (names : Means) (items : List ItemTree) (types : List MType) (es : List Entry) → map (entry_told types) es ≡ items_told names items → NameThemselves types es
own_types names items types es told i e id at is =
    let here : slice_get (items_told names items) i ≡ Some (entry_told types e) = ap (λ (ts : List Told). slice_get ts i) (sym told) ∙ map_has (entry_told types) es i e at in
    let m = mapped said (enumerate_from 0 items) i (entry_told types e) here in
    let number : m.0.0 ≡ 0 + i = numbered 0 items i m.0 m.1 in
    let same : m.0.0 ≡ i = omega (arith, number) in
    let own : own_type m.0.0 m.0.1.kind ≡ Some (type_at types id) = ap (λ (x : Told). x.own) m.2 ∙ own_of types e id is in
    declared_own m.0.0 m.0.1.kind (type_at types id) own ∙ ap (λ (n : ℕ). NamedType (DeclaredItem n) no_types) same
  where
    said : ℕ × ItemTree → Told
    said p = item_told names p.0 p.1
