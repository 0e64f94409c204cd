-- Well-typed rows have well-typed leaves, and these have heads of the set and write as many parts as their pieces have.
use Rattle.std.proofs.Common.{◌≡◌, ℕ, suc, Bool, true, false, ◌&&◌, List, [], ◌∷◌, ◌++◌, map, length, Some, None, refl, sym, IsTrue}
use Rattle.std.specs.List.{All}
use Rattle.std.specs.Option.{option_to_list}
use Rattle.std.proofs.lemmas.List.Elements.{All-head, All-tail, All-nil, All-cons, All-append}
use Rattle.match_model.specs.Values.{MValue}
use Rattle.match_model.specs.Constructors.{MCtor, SingleCtor, PointCtor, LaterCtor, OtherTextCtor, VariantCtor, FlagCtor, NumbersCtor, TextCtor, RowCtor, WildCtor, OrCtor, belongs}
use Rattle.match_model.specs.Contexts.{Context, Open}
use Rattle.match_model.specs.ContextLaws.{PartsLaw}
use Rattle.match_model.specs.ArenaPatterns.{MDePat, de_pat}
use Rattle.match_model.specs.Rows.{Head as MHead, Choice, choices_of, first_ctor, starts_or}
use Rattle.match_model.specs.Matrices.{column_at}
use Rattle.match_model.specs.WellTyped.{IsHeadTyped, IsTyped, is_written}
use Rattle.match_model.proofs.Basics.{untrue}
use Rattle.constructor_sets.specs.Present.{is_sharp_head}
use Rattle.pattern_matrix.specs.HeadRows.{cols, AllTyped}
use Rattle.pattern_matrix.proofs.Places.{expanded_typed, expanded_none, NoneOr}
use Rattle.pattern_matrix.proofs.SpecialTyped.{head_fitted}
use Rattle.pattern_matrix.specs.Sparse.{SparseRow, SparseLeaf, bare_head, head_at, head_has, leaf_parts}
use Rattle.pattern_matrix.specs.Spreading.{leaf_of, apart, all_apart}
use Rattle.pattern_matrix.specs.Halving.{leaf_ctors}
use Rattle.pattern_matrix.specs.Typing.{IsLeafTyped, AreLeavesTyped, AreViewsTyped}
use Rattle.pattern_matrix.proofs.Listing.{length-wildcards}

module _ {T : Type 0} (cx : Context T) where
  -- the leaf of a choice
  bare_leaf : (t : T) (row : ℕ) (c : Choice T) → IsHeadTyped cx t (Some c.pat) → starts_or (Some c.pat ∷ []) ≡ false → IsLeafTyped cx t (leaf_of row [] c)
  bare_leaf t row c h o = go c.pat h o
    where
      go : (p : MDePat T) → IsHeadTyped cx t (Some p) → starts_or (Some p ∷ []) ≡ false →
          IsLeafTyped cx t (record { row = row; head = bare_head (Some p); chosen = [] ++ c.chosen })
      go (de_pat WildCtor u uid at subs binds) h o = record { head = tt; not_or = refl }
      go (de_pat _ u uid at subs binds) h o = record { head = h; not_or = o }

  each_choice : (o : Open T) (row : ℕ) (cs : List (Choice T)) → AllTyped cx (cols (o ∷ [])) (map (λ c. Some c.pat ∷ []) cs ++ []) →
      NoneOr cx (map (λ c. Some c.pat ∷ []) cs ++ []) →
      All (IsLeafTyped cx o.type) (map (leaf_of row []) cs)
  each_choice o row [] h n = All-nil (IsLeafTyped cx o.type)
  each_choice o row (c ∷ cs) h n = All-cons (IsLeafTyped cx o.type) (leaf_of row [] c) (map (leaf_of row []) cs) (bare_leaf o.type row c h.0.0 n.0) (each_choice o row cs h.1 n.1)

  row_typed : (o : Open T) (row : ℕ) (h : MHead T) → IsHeadTyped cx o.type h → All (IsLeafTyped cx o.type) (apart row h)
  row_typed o row None h = All-cons (IsLeafTyped cx o.type) (record { row = row; head = None; chosen = [] }) [] (record { head = tt; not_or = refl }) (All-nil (IsLeafTyped cx o.type))
  row_typed o row (Some p) h =
      let one : AllTyped cx (cols (o ∷ [])) ((Some p ∷ []) ∷ []) = ((h, tt), tt) in
      each_choice o row (choices_of p) (expanded_typed cx (column_at [] o) [] ((Some p ∷ []) ∷ []) one) (expanded_none cx (column_at [] o) [] ((Some p ∷ []) ∷ []) one)

  pub leaves_typed : (o : Open T) (places : List (Open T)) (column n : ℕ) (others : List ℕ) (rows : List (SparseRow T)) →
      AreViewsTyped cx (o ∷ places) (column ∷ others) rows → AreLeavesTyped cx o.type (all_apart column n rows)
  leaves_typed o places column n others [] h = All-nil (IsLeafTyped cx o.type)
  leaves_typed o places column n others (r ∷ rows) h =
      All-append (IsLeafTyped cx o.type) (apart n (head_at r.heads column)) (all_apart column (suc n) rows) (row_typed o n (head_at r.heads column) h.0.0) (leaves_typed o places column (suc n) others rows h.1)

  -- the constructors of the leaves are heads of the set
  leaf_sharp : (t : T) (h : MHead T) → IsHeadTyped cx t h → starts_or (h ∷ []) ≡ false →
      All (λ c. IsTrue (is_sharp_head (cx.set_of t) c)) (option_to_list (first_ctor (bare_head h ∷ [])))
  leaf_sharp t None h o = All-nil (λ c. IsTrue (is_sharp_head (cx.set_of t) c))
  leaf_sharp t (Some (de_pat d u uid at subs binds)) h o = go d h o
    where
      one : (d : MCtor) → IsTrue (belongs (cx.set_of t) d && is_written d) → All (λ c. IsTrue (is_sharp_head (cx.set_of t) c)) (d ∷ [])
      one d k = All-cons (λ c. IsTrue (is_sharp_head (cx.set_of t) c)) d [] k (All-nil (λ c. IsTrue (is_sharp_head (cx.set_of t) c)))

      go : (d : MCtor) → IsTyped cx t (de_pat d u uid at subs binds) → starts_or (Some (de_pat d u uid at subs binds) ∷ []) ≡ false →
          All (λ c. IsTrue (is_sharp_head (cx.set_of t) c)) (option_to_list (first_ctor (bare_head (Some (de_pat d u uid at subs binds)) ∷ [])))
      go WildCtor h o = All-nil (λ c. IsTrue (is_sharp_head (cx.set_of t) c))
      go OrCtor h o = untrue (sym o)
      go SingleCtor h o = one SingleCtor h.2.0
      go PointCtor h o = one PointCtor h.2.0
      go LaterCtor h o = one LaterCtor h.2.0
      go OtherTextCtor h o = one OtherTextCtor h.2.0
      go (VariantCtor k) h o = one (VariantCtor k) h.2.0
      go (FlagCtor b) h o = one (FlagCtor b) h.2.0
      go (NumbersCtor r) h o = one (NumbersCtor r) h.2.0
      go (TextCtor x) h o = one (TextCtor x) h.2.0
      go (RowCtor s) h o = one (RowCtor s) h.2.0

  pub leaves_sharp : (t : T) (leaves : List (SparseLeaf T)) → AreLeavesTyped cx t leaves → All (λ c. IsTrue (is_sharp_head (cx.set_of t) c)) (leaf_ctors leaves)
  leaves_sharp t [] h = All-nil (λ c. IsTrue (is_sharp_head (cx.set_of t) c))
  leaves_sharp t (l ∷ leaves) h =
      let k = All-head (IsLeafTyped cx t) l leaves h in
      All-append (λ c. IsTrue (is_sharp_head (cx.set_of t) c)) (option_to_list (first_ctor (bare_head l.head ∷ []))) (leaf_ctors leaves)
      (leaf_sharp t l.head k.head k.not_or) (leaves_sharp t leaves (All-tail (IsLeafTyped cx t) l leaves h))

module _ {T : Type 0} (IsType : T → Type 0) (IsValue : T → Bool → MValue → Type 0) (cx : Context T) (law : PartsLaw IsType IsValue cx) where
  -- a leaf that has the piece writes as many parts as the piece has
  leaf_writes : (t : T) (piece : MCtor) → IsType t → IsTrue (belongs (cx.set_of t) piece) → (h : MHead T) → IsHeadTyped cx t h → head_has piece h ≡ true →
      length (leaf_parts (cx.arity piece t) h) ≡ cx.arity piece t
  leaf_writes t piece d b None h e = length-wildcards T (cx.arity piece t)
  leaf_writes t piece d b (Some (de_pat c u uid at subs binds)) h e = (head_fitted IsType IsValue cx law t c piece u uid at subs binds d b h e).0

  pub leaves_write : (t : T) (piece : MCtor) → IsType t → IsTrue (belongs (cx.set_of t) piece) → (leaves : List (SparseLeaf T)) → AreLeavesTyped cx t leaves →
      All (λ l. head_has piece l.head ≡ true → length (leaf_parts (cx.arity piece t) l.head) ≡ cx.arity piece t) leaves
  leaves_write t piece d b [] h = All-nil (λ (l : SparseLeaf T). head_has piece l.head ≡ true → length (leaf_parts (cx.arity piece t) l.head) ≡ cx.arity piece t)
  leaves_write t piece d b (l ∷ leaves) h =
      All-cons (λ (l : SparseLeaf T). head_has piece l.head ≡ true → length (leaf_parts (cx.arity piece t) l.head) ≡ cx.arity piece t) l leaves
      (leaf_writes t piece d b l.head (All-head (IsLeafTyped cx t) l leaves h).head) (leaves_write t piece d b leaves (All-tail (IsLeafTyped cx t) l leaves h))
