-- What is found of the pieces that are gone through is found of all pieces of the place.
use Rattle.std.proofs.Common.{◌≡◌, ◌<◌, ℕ, zero, suc, ◌+◌, Bool, true, false, ◌||◌, List, [], ◌∷◌, ◌++◌, map, filter_map, replicate, length, slice_get, refl, sym, ap, subst, ◌∙◌, arith, IsTrue}
use Rattle.std.specs.List.{All, list_any}
use Rattle.std.proofs.lemmas.List.Elements.{All-cons, All-nil, All-head, All-tail}
use Rattle.match_model.specs.Values.{MValue}
use Rattle.match_model.specs.Constructors.{MCtor, SingleCtor, PointCtor, LaterCtor, OtherTextCtor, VariantCtor, FlagCtor, NumbersCtor, TextCtor, RowCtor, WildCtor, OrCtor, MSet, SingleSet, PointSet, FlagSet, VariantSet, NumberSet, TextSet, RowSet, OpaqueSet, NothingSet, has_piece, belongs}
use Rattle.match_model.specs.Contexts.{Context, Open}
use Rattle.match_model.specs.PieceStates.{is_present, named_in}
use Rattle.match_model.specs.Rows.{Head, column_of, all_specialised, parts_open, part_open}
use Rattle.match_model.specs.Matrices.{column_at}
use Rattle.match_model.specs.Witness.{MWitness, AnyOf}
use Rattle.match_model.specs.WitnessList.{Witnesses, PieceWitnesses, no_piece, with_value, without_value, wrapped}
use Rattle.match_model.proofs.Basics.{untrue, both}
use Rattle.match_model.proofs.OnePieces.{one_pieces}
use Rattle.pat_context.specs.Laws.{HasFewItems}
use Rattle.constructor_sets.specs.Columns.{IsState, IsColumnSplit}
use Rattle.constructor_sets.specs.declared.piece.PieceState.{PieceState}
use Rattle.constructor_sets.specs.declared.piece.PieceState.TheVariants.{Present, Missing, Empty}
use Rattle.constructor_sets.specs.Present.{is_sharp_head, present_piece, is_missing, AreFound}
use Rattle.pattern_matrix.specs.HeadRows.{cols, AllTyped}
use Rattle.pattern_matrix.proofs.Places.{length-below}
use Rattle.pattern_matrix.specs.Halving.{AreLeafSpans}
use Rattle.pattern_matrix.specs.Sparse.{SparseLeaf, columns_from}
use Rattle.witness_search.specs.Askable.{IsValued}
use Rattle.witness_search.specs.Bares.{wild_rests}
use Rattle.witness_search.specs.Cuts.{IsCutOf, wrapped_behind}
use Rattle.witness_search.specs.Found.{AreWrapped, AreOfPieces, IsEnterable, AreNumbered, as_present}
use Rattle.witness_search.proofs.Missing.{missing_rows, in_front}

-- ---- only the rest of all texts asks which texts are named

abbrev is_rest : MCtor → Bool
is_rest OtherTextCtor = true
is_rest _ = false

one_wrap : (c : MCtor) (named other : List (List ℕ)) (n : ℕ) (w : List MWitness) → is_rest c ≡ false → wrapped c named n w ≡ wrapped c other n w
one_wrap SingleCtor named other n w e = refl
one_wrap PointCtor named other n w e = refl
one_wrap LaterCtor named other n w e = refl
one_wrap OtherTextCtor named other n w e = cc
one_wrap (VariantCtor k) named other n w e = refl
one_wrap (FlagCtor b) named other n w e = refl
one_wrap (NumbersCtor r) named other n w e = refl
one_wrap (TextCtor t) named other n w e = refl
one_wrap (RowCtor s) named other n w e = refl
one_wrap WildCtor named other n w e = refl
one_wrap OrCtor named other n w e = refl

same_wraps : (c : MCtor) (named other : List (List ℕ)) (n : ℕ) (ws : List (List MWitness)) → is_rest c ≡ false →
    map (wrapped c named n) ws ≡ map (wrapped c other n) ws
same_wraps c named other n [] e = refl
same_wraps c named other n (w ∷ ws) e =
    ap (λ x. x ∷ map (wrapped c named n) ws) (one_wrap c named other n w e) ∙ ap (λ xs. wrapped c other n w ∷ xs) (same_wraps c named other n ws e)

no_wild : (s : MSet) → belongs s WildCtor ≡ false
no_wild SingleSet = refl
no_wild PointSet = refl
no_wild (VariantSet c l) = refl
no_wild FlagSet = refl
no_wild (NumberSet a b) = refl
no_wild TextSet = refl
no_wild (RowSet l) = refl
no_wild OpaqueSet = refl
no_wild NothingSet = refl

no_rest : (s : MSet) (h : MCtor) → is_sharp_head s h ≡ true → has_piece h OtherTextCtor ≡ false
no_rest s SingleCtor e = refl
no_rest s PointCtor e = refl
no_rest s LaterCtor e = refl
no_rest s OtherTextCtor e = let b = both (belongs s OtherTextCtor) false e in untrue b.1
no_rest s (VariantCtor k) e = refl
no_rest s (FlagCtor b) e = refl
no_rest s (NumbersCtor r) e = refl
no_rest s (TextCtor t) e = refl
no_rest s (RowCtor r) e = refl
no_rest s WildCtor e = let b = both (belongs s WildCtor) true e in untrue (sym (no_wild s) ∙ b.0)
no_rest s OrCtor e = refl

none_rest : (s : MSet) (heads : List MCtor) → All (λ h. IsTrue (is_sharp_head s h)) heads → is_present heads OtherTextCtor ≡ false
none_rest s [] a = refl
none_rest s (h ∷ heads) a =
    ap (λ b. b || is_present heads OtherTextCtor) (no_rest s h (All-head (λ x. IsTrue (is_sharp_head s x)) h heads a))
    ∙ none_rest s heads (All-tail (λ x. IsTrue (is_sharp_head s x)) h heads a)

not_rest : (s : MSet) (heads : List MCtor) (c : MCtor) → All (λ h. IsTrue (is_sharp_head s h)) heads → is_present heads c ≡ true → is_rest c ≡ false
not_rest s heads OtherTextCtor a e = untrue (sym (none_rest s heads a) ∙ e)
not_rest s heads SingleCtor a e = refl
not_rest s heads PointCtor a e = refl
not_rest s heads LaterCtor a e = refl
not_rest s heads (VariantCtor k) a e = refl
not_rest s heads (FlagCtor b) a e = refl
not_rest s heads (NumbersCtor r) a e = refl
not_rest s heads (TextCtor t) a e = refl
not_rest s heads (RowCtor r) a e = refl
not_rest s heads WildCtor a e = refl
not_rest s heads OrCtor a e = refl

-- ---- lists of pieces

present_back : (cs : List MCtor) → filter_map present_piece (as_present cs) ≡ cs
present_back [] = refl
present_back (c ∷ cs) = ap (λ xs. c ∷ xs) (present_back cs)

numbered_from : (all : List MCtor) (n : ℕ) (more : List MCtor) → ((i k : ℕ) → n + i ≡ k → slice_get all k ≡ slice_get more i) →
    AreNumbered all (columns_from n (length more)) more
numbered_from all n [] get = tt
numbered_from all n (c ∷ more) get = (get zero n (omega arith), numbered_from all (suc n) more (λ i k e. get (suc i) k (omega arith)))

all_numbered : (ctors : List MCtor) → AreNumbered ctors (columns_from 0 (length ctors)) ctors
all_numbered ctors = numbered_from ctors 0 ctors (λ i k e. let same : k ≡ i = omega arith in ap (slice_get ctors) same)

of_present : (P : MCtor → Type 0) (ps : List (MCtor × PieceState)) → All P (map (λ (p : MCtor × PieceState). p.0) ps) →
    All (λ (p : MCtor × PieceState). P p.0) (as_present (filter_map present_piece ps))
of_present P [] a = All-nil (λ (p : MCtor × PieceState). P p.0)
of_present P ((c, Present) ∷ ps) a =
    All-cons (λ (p : MCtor × PieceState). P p.0) (c, Present) (as_present (filter_map present_piece ps))
    (All-head P c (map (λ (p : MCtor × PieceState). p.0) ps) a) (of_present P ps (All-tail P c (map (λ (p : MCtor × PieceState). p.0) ps) a))
of_present P ((c, Missing) ∷ ps) a = of_present P ps (All-tail P c (map (λ (p : MCtor × PieceState). p.0) ps) a)
of_present P ((c, Empty) ∷ ps) a = of_present P ps (All-tail P c (map (λ (p : MCtor × PieceState). p.0) ps) a)

of_each : (P : MCtor → Type 0) (ps : List (MCtor × PieceState)) → All P (map (λ (p : MCtor × PieceState). p.0) ps) → All (λ (p : MCtor × PieceState). P p.0) ps
of_each P [] a = All-nil (λ (p : MCtor × PieceState). P p.0)
of_each P ((c, s) ∷ ps) a =
    All-cons (λ (p : MCtor × PieceState). P p.0) (c, s) ps (All-head P c (map (λ (p : MCtor × PieceState). p.0) ps) a)
    (of_each P ps (All-tail P c (map (λ (p : MCtor × PieceState). p.0) ps) a))

both_each : (P Q : MCtor → Type 0) (cs : List MCtor) → All P cs → All Q cs → All (λ c. P c × Q c) cs
both_each P Q [] a b = All-nil (λ c. P c × Q c)
both_each P Q (c ∷ cs) a b =
    All-cons (λ d. P d × Q d) c cs (All-head P c cs a, All-head Q c cs b) (both_each P Q cs (All-tail P c cs a) (All-tail Q c cs b))

module _ {T : Type 0} (cx : Context T) (IsValue : T → Bool → MValue → Type 0) (o : Open T) where
  -- a piece has one state
  one_state : (named : List (List ℕ)) (heads : List MCtor) (c : MCtor) (s t : PieceState) → IsState IsValue o named heads c s →
      IsState IsValue o named heads c t → s ≡ t
  one_state named heads c Present Present h k = refl
  one_state named heads c Present Missing h k = untrue (sym k.1 ∙ h.1)
  one_state named heads c Present Empty h k = absurd (k h.0)
  one_state named heads c Missing Present h k = untrue (sym h.1 ∙ k.1)
  one_state named heads c Missing Missing h k = refl
  one_state named heads c Missing Empty h k = absurd (k h.0)
  one_state named heads c Empty Present h k = absurd (h k.0)
  one_state named heads c Empty Missing h k = absurd (h k.0)
  one_state named heads c Empty Empty h k = refl

  abbrev States : List (List ℕ) → List MCtor → List (MCtor × PieceState) → Type 0
  States named heads ps = All (λ (p : MCtor × PieceState). IsState IsValue o named heads p.0 p.1) ps

  abbrev firsts : List (MCtor × PieceState) → List MCtor
  firsts ps = map (λ (p : MCtor × PieceState). p.0) ps

  one_list : (named : List (List ℕ)) (heads : List MCtor) (ps qs : List (MCtor × PieceState)) → firsts ps ≡ firsts qs →
      States named heads ps → States named heads qs → ps ≡ qs
  one_list named heads [] [] e a b = refl
  one_list named heads [] (q ∷ qs) e a b = absurd (cc)
  one_list named heads (p ∷ ps) [] e a b = absurd (cc)
  one_list named heads ((c, s) ∷ ps) ((d, t) ∷ qs) e a b =
      let first : c ≡ d = cc in
      let rest : firsts ps ≡ firsts qs = cc in
      let here = All-head (λ (p : MCtor × PieceState). IsState IsValue o named heads p.0 p.1) (c, s) ps a in
      let there = All-head (λ (p : MCtor × PieceState). IsState IsValue o named heads p.0 p.1) (d, t) qs b in
      let state = one_state named heads d s t (subst (λ x. IsState IsValue o named heads x s) first here) there in
      ap (λ x. (x, s) ∷ ps) first ∙ ap (λ x. (d, x) ∷ ps) state
      ∙ ap (λ xs. (d, t) ∷ xs) (one_list named heads ps qs rest (All-tail (λ (p : MCtor × PieceState). IsState IsValue o named heads p.0 p.1) (c, s) ps a) (All-tail (λ (p : MCtor × PieceState). IsState IsValue o named heads p.0 p.1) (d, t) qs b))

  -- a column has one split
  one_split : (heads : List MCtor) (ps qs : List (MCtor × PieceState)) → IsColumnSplit IsValue cx o heads ps → IsColumnSplit IsValue cx o heads qs → ps ≡ qs
  one_split heads ps qs h k =
      let e = one_pieces (cx.set_of o.type) heads (firsts ps) (firsts qs) h.are.listed k.are.listed in
      one_list (named_in (firsts ps)) heads ps qs e h.states (subst (λ cs. States (named_in cs) heads qs) (sym e) k.states)

  -- each piece that is present has a value
  valued_states : (named : List (List ℕ)) (heads : List MCtor) (ps : List (MCtor × PieceState)) → States named heads ps →
      All (λ (p : MCtor × PieceState). p.1 ≡ Present → IsValued IsValue o p.0) ps
  valued_states named heads [] s = All-nil (λ (p : MCtor × PieceState). p.1 ≡ Present → IsValued IsValue o p.0)
  valued_states named heads ((c, x) ∷ ps) s =
      All-cons (λ (p : MCtor × PieceState). p.1 ≡ Present → IsValued IsValue o p.0) (c, x) ps
      (λ e. (named, (subst (IsState IsValue o named heads c) e (All-head (λ (p : MCtor × PieceState). IsState IsValue o named heads p.0 p.1) (c, x) ps s)).0))
      (valued_states named heads ps (All-tail (λ (p : MCtor × PieceState). IsState IsValue o named heads p.0 p.1) (c, x) ps s))

  valued_present : (named : List (List ℕ)) (heads : List MCtor) (ps : List (MCtor × PieceState)) → States named heads ps →
      All (λ (p : MCtor × PieceState). p.1 ≡ Present → IsValued IsValue o p.0) (as_present (filter_map present_piece ps))
  valued_present named heads [] s = All-nil (λ (p : MCtor × PieceState). p.1 ≡ Present → IsValued IsValue o p.0)
  valued_present named heads ((c, Present) ∷ ps) s =
      All-cons (λ (p : MCtor × PieceState). p.1 ≡ Present → IsValued IsValue o p.0) (c, Present) (as_present (filter_map present_piece ps))
      (λ e. (named, (All-head (λ (p : MCtor × PieceState). IsState IsValue o named heads p.0 p.1) (c, Present) ps s).0))
      (valued_present named heads ps (All-tail (λ (p : MCtor × PieceState). IsState IsValue o named heads p.0 p.1) (c, Present) ps s))
  valued_present named heads ((c, Missing) ∷ ps) s = valued_present named heads ps (All-tail (λ (p : MCtor × PieceState). IsState IsValue o named heads p.0 p.1) (c, Missing) ps s)
  valued_present named heads ((c, Empty) ∷ ps) s = valued_present named heads ps (All-tail (λ (p : MCtor × PieceState). IsState IsValue o named heads p.0 p.1) (c, Empty) ps s)

  -- each piece can be entered
  enterable : (heads : List MCtor) (ps : List (MCtor × PieceState)) → IsColumnSplit IsValue cx o heads ps → All (IsEnterable cx o) (firsts ps)
  enterable heads ps h = both_each (λ c. IsTrue (belongs (cx.set_of o.type) c)) HasFewItems (firsts ps) h.are.belong h.are.held

module _ {T : Type 0} (cx : Context T) (IsValue : T → Bool → MValue → Type 0) (o : Open T) (places : List (Open T)) (rows : List (List (Head T))) where
  -- stacks of all pieces, by their states
  all_pieces : (named : List (List ℕ)) (heads : List MCtor) (ps : List (MCtor × PieceState)) → States cx IsValue o named heads ps → (stacks : List (List MWitness)) →
      AreOfPieces cx IsValue named o places rows ps stacks → PieceWitnesses cx IsValue named o places rows (firsts cx IsValue o ps) stacks
  all_pieces named heads [] s stacks h = subst (PieceWitnesses cx IsValue named o places rows []) (sym h) (no_piece named o places rows)
  all_pieces named heads ((c, Present) ∷ ps) s stacks (us, ts, (ws, w, e), h, q) =
      let here = All-head (λ (p : MCtor × PieceState). IsState IsValue o named heads p.0 p.1) (c, Present) ps s in
      let more = all_pieces named heads ps (All-tail (λ (p : MCtor × PieceState). IsState IsValue o named heads p.0 p.1) (c, Present) ps s) ts h in
      subst (PieceWitnesses cx IsValue named o places rows (c ∷ firsts cx IsValue o ps)) (sym (q ∙ ap (λ x. x ++ ts) e))
      (with_value named o places rows c (firsts cx IsValue o ps) ws ts here.0 w more)
  all_pieces named heads ((c, Missing) ∷ ps) s stacks (us, ts, (ws, w, e), h, q) =
      let here = All-head (λ (p : MCtor × PieceState). IsState IsValue o named heads p.0 p.1) (c, Missing) ps s in
      let more = all_pieces named heads ps (All-tail (λ (p : MCtor × PieceState). IsState IsValue o named heads p.0 p.1) (c, Missing) ps s) ts h in
      subst (PieceWitnesses cx IsValue named o places rows (c ∷ firsts cx IsValue o ps)) (sym (q ∙ ap (λ x. x ++ ts) e))
      (with_value named o places rows c (firsts cx IsValue o ps) ws ts here.0 w more)
  all_pieces named heads ((c, Empty) ∷ ps) s stacks (us, ts, e, h, q) =
      let here = All-head (λ (p : MCtor × PieceState). IsState IsValue o named heads p.0 p.1) (c, Empty) ps s in
      let more = all_pieces named heads ps (All-tail (λ (p : MCtor × PieceState). IsState IsValue o named heads p.0 p.1) (c, Empty) ps s) ts h in
      subst (PieceWitnesses cx IsValue named o places rows (c ∷ firsts cx IsValue o ps)) (sym (q ∙ ap (λ x. x ++ ts) e))
      (without_value named o places rows c (firsts cx IsValue o ps) ts here more)

  -- the stacks of a missing piece
  pub of_missing : (columns : List (Open T)) (c : MCtor) (behind : List (List MWitness)) → AllTyped cx (cols (o ∷ columns)) rows →
      is_present (column_of rows) c ≡ false → Witnesses cx IsValue places (wild_rests rows) behind →
      Witnesses cx IsValue (parts_open cx o c ++ places) (all_specialised c (cx.arity c o.type) rows) (map (λ w. replicate (cx.arity c o.type) AnyOf ++ w) behind)
  of_missing columns c behind t e h =
      let n = cx.arity c o.type in
      subst (λ x. Witnesses cx IsValue (parts_open cx o c ++ places) x (map (λ w. replicate n AnyOf ++ w) behind))
      (sym (missing_rows cx (column_at [] o) (cols columns) c n rows t e))
      (in_front cx IsValue (parts_open cx o c) n places (wild_rests rows) behind (length-below (part_open cx o c) n) h)

  -- stacks of the present pieces alone, where the rows that are wild there leave none
  only_present : (columns : List (Open T)) (named other : List (List ℕ)) (ps : List (MCtor × PieceState)) → AllTyped cx (cols (o ∷ columns)) rows →
      All (λ h. IsTrue (is_sharp_head (cx.set_of o.type) h)) (column_of rows) → States cx IsValue o named (column_of rows) ps →
      (list_any is_missing ps ≡ true → Witnesses cx IsValue places (wild_rests rows) []) → (stacks : List (List MWitness)) →
      AreOfPieces cx IsValue other o places rows (as_present (filter_map present_piece ps)) stacks →
      PieceWitnesses cx IsValue named o places rows (firsts cx IsValue o ps) stacks
  only_present columns named other [] t a s m stacks h = subst (PieceWitnesses cx IsValue named o places rows []) (sym h) (no_piece named o places rows)
  only_present columns named other ((c, Present) ∷ ps) t a s m stacks (us, ts, (ws, w, e), h, q) =
      let here = All-head (λ (p : MCtor × PieceState). IsState IsValue o named (column_of rows) p.0 p.1) (c, Present) ps s in
      let more = only_present columns named other ps t a (All-tail (λ (p : MCtor × PieceState). IsState IsValue o named (column_of rows) p.0 p.1) (c, Present) ps s) m ts h in
      let same = same_wraps c other named (cx.arity c o.type) ws (not_rest (cx.set_of o.type) (column_of rows) c a here.1) in
      subst (PieceWitnesses cx IsValue named o places rows (c ∷ firsts cx IsValue o ps)) (sym (q ∙ ap (λ x. x ++ ts) (e ∙ same)))
      (with_value named o places rows c (firsts cx IsValue o ps) ws ts here.0 w more)
  only_present columns named other ((c, Missing) ∷ ps) t a s m stacks h =
      let here = All-head (λ (p : MCtor × PieceState). IsState IsValue o named (column_of rows) p.0 p.1) (c, Missing) ps s in
      let more = only_present columns named other ps t a (All-tail (λ (p : MCtor × PieceState). IsState IsValue o named (column_of rows) p.0 p.1) (c, Missing) ps s) (λ e. m refl) stacks h in
      with_value named o places rows c (firsts cx IsValue o ps) [] stacks here.0 (of_missing columns c [] t here.1 (m refl)) more
  only_present columns named other ((c, Empty) ∷ ps) t a s m stacks h =
      let here = All-head (λ (p : MCtor × PieceState). IsState IsValue o named (column_of rows) p.0 p.1) (c, Empty) ps s in
      let more = only_present columns named other ps t a (All-tail (λ (p : MCtor × PieceState). IsState IsValue o named (column_of rows) p.0 p.1) (c, Empty) ps s) m stacks h in
      without_value named o places rows c (firsts cx IsValue o ps) stacks here more

  -- a missing piece of the split
  missing_states : (columns : List (Open T)) (named : List (List ℕ)) (behind : List (List MWitness)) (ps : List (MCtor × PieceState)) → AllTyped cx (cols (o ∷ columns)) rows →
      States cx IsValue o named (column_of rows) ps → Witnesses cx IsValue places (wild_rests rows) behind →
      All (λ (p : MCtor × PieceState). p.1 ≡ Missing → AreWrapped cx IsValue named o places rows p.0 (wrapped_behind cx named o behind p.0)) ps
  missing_states columns named behind [] t s h = All-nil (λ (p : MCtor × PieceState). p.1 ≡ Missing → AreWrapped cx IsValue named o places rows p.0 (wrapped_behind cx named o behind p.0))
  missing_states columns named behind ((c, x) ∷ ps) t s h =
      All-cons (λ (p : MCtor × PieceState). p.1 ≡ Missing → AreWrapped cx IsValue named o places rows p.0 (wrapped_behind cx named o behind p.0)) (c, x) ps
      (λ e. let here = subst (IsState IsValue o named (column_of rows) c) e (All-head (λ (p : MCtor × PieceState). IsState IsValue o named (column_of rows) p.0 p.1) (c, x) ps s) in
      (map (λ w. replicate (cx.arity c o.type) AnyOf ++ w) behind, of_missing columns c behind t here.1 h, refl))
      (missing_states columns named behind ps t (All-tail (λ (p : MCtor × PieceState). IsState IsValue o named (column_of rows) p.0 p.1) (c, x) ps s) h)

  no_missing : (named : List (List ℕ)) (behind : List (List MWitness)) (cs : List MCtor) →
      All (λ (p : MCtor × PieceState). p.1 ≡ Missing → AreWrapped cx IsValue named o places rows p.0 (wrapped_behind cx named o behind p.0)) (as_present cs)
  no_missing named behind [] = All-nil (λ (p : MCtor × PieceState). p.1 ≡ Missing → AreWrapped cx IsValue named o places rows p.0 (wrapped_behind cx named o behind p.0))
  no_missing named behind (c ∷ cs) =
      All-cons (λ (p : MCtor × PieceState). p.1 ≡ Missing → AreWrapped cx IsValue named o places rows p.0 (wrapped_behind cx named o behind p.0)) (c, Present) (as_present cs)
      (λ e. absurd (cc)) (no_missing named behind cs)

  -- the cut, where only present pieces are gone through
  pub cut_present : (columns : List (Open T)) (leaves : List (SparseLeaf T)) (ctors heads gaps : List MCtor) (missing : Bool) (spans : List (ℕ × ℕ)) (pieces : List (MCtor × PieceState)) (named : List (List ℕ)) (behind : List (List MWitness)) →
      AllTyped cx (cols (o ∷ columns)) rows → All (λ h. IsTrue (is_sharp_head (cx.set_of o.type) h)) (column_of rows) → heads ≡ column_of rows →
      AreFound IsValue cx o heads ctors missing gaps → AreLeafSpans ctors leaves spans → pieces ≡ as_present ctors →
      (missing ≡ true → Witnesses cx IsValue places (wild_rests rows) []) → IsCutOf cx IsValue o places rows leaves ctors spans pieces named behind
  cut_present columns leaves ctors heads gaps missing spans pieces named behind t a c f s e m =
      let split = subst (λ (x : List MCtor). IsColumnSplit IsValue cx o x f.pieces) c f.split in
      let same : pieces ≡ as_present (filter_map present_piece f.pieces) = e ∙ ap as_present f.present in
      record {
        back = λ ws h. (
          firsts cx IsValue o f.pieces,
          split.are.listed,
          only_present columns (named_in (firsts cx IsValue o f.pieces)) named f.pieces t a split.states (λ k. m (f.some_missing ∙ k)) ws
              (subst (λ (x : List (MCtor × PieceState)). AreOfPieces cx IsValue named o places rows x ws) same h),
        );
        enterable = subst (All (λ (p : MCtor × PieceState). IsEnterable cx o p.0)) (sym same) (of_present (IsEnterable cx o) f.pieces (enterable cx IsValue o (column_of rows) f.pieces split));
        valued = subst (All (λ (p : MCtor × PieceState). p.1 ≡ Present → IsValued IsValue o p.0)) (sym same)
            (valued_present cx IsValue o (named_in (firsts cx IsValue o f.pieces)) (column_of rows) f.pieces split.states);
        spans_are = s;
        numbered = subst (AreNumbered ctors (columns_from 0 (length ctors))) (sym (ap (filter_map present_piece) e ∙ present_back ctors)) (all_numbered ctors);
        missing = subst (All (λ (p : MCtor × PieceState). p.1 ≡ Missing → AreWrapped cx IsValue named o places rows p.0 (wrapped_behind cx named o behind p.0))) (sym e) (no_missing named behind ctors);
      }

  -- the cut, where all are
  pub cut_all : (columns : List (Open T)) (leaves : List (SparseLeaf T)) (ctors heads gaps : List MCtor) (missing : Bool) (spans : List (ℕ × ℕ)) (pieces : List (MCtor × PieceState)) (named : List (List ℕ)) (behind : List (List MWitness)) →
      AllTyped cx (cols (o ∷ columns)) rows → heads ≡ column_of rows →
      AreFound IsValue cx o heads ctors missing gaps → AreLeafSpans ctors leaves spans → IsColumnSplit IsValue cx o heads pieces → named ≡ named_in (map (λ (p : MCtor × PieceState). p.0) pieces) →
      Witnesses cx IsValue places (wild_rests rows) behind → IsCutOf cx IsValue o places rows leaves ctors spans pieces named behind
  cut_all columns leaves ctors heads gaps missing spans pieces named behind t c f s k n h =
      let split = subst (λ (x : List MCtor). IsColumnSplit IsValue cx o x pieces) c k in
      let states = subst (λ x. States cx IsValue o x (column_of rows) pieces) (sym n) split.states in
      let same = one_split cx IsValue o heads f.pieces pieces f.split k in
      record {
        back = λ ws g. (
          map (λ (p : MCtor × PieceState). p.0) pieces,
          split.are.listed,
          subst (λ x. PieceWitnesses cx IsValue x o places rows (map (λ (p : MCtor × PieceState). p.0) pieces) ws) n (all_pieces named (column_of rows) pieces states ws g),
        );
        enterable = of_each (IsEnterable cx o) pieces (enterable cx IsValue o (column_of rows) pieces split);
        valued = valued_states cx IsValue o (named_in (firsts cx IsValue o pieces)) (column_of rows) pieces split.states;
        spans_are = s;
        numbered = subst (AreNumbered ctors (columns_from 0 (length ctors))) (f.present ∙ ap (filter_map present_piece) same) (all_numbered ctors);
        missing = missing_states columns named behind pieces t states h;
      }

  -- the cut, whichever are gone through
  pub cut_is : (columns : List (Open T)) (leaves : List (SparseLeaf T)) (ctors heads gaps : List MCtor) (missing none : Bool) (spans : List (ℕ × ℕ)) (pieces : List (MCtor × PieceState)) (named : List (List ℕ)) (behind : List (List MWitness)) →
      AllTyped cx (cols (o ∷ columns)) rows → All (λ h. IsTrue (is_sharp_head (cx.set_of o.type) h)) (column_of rows) → heads ≡ column_of rows →
      AreFound IsValue cx o heads ctors missing gaps → AreLeafSpans ctors leaves spans → named ≡ named_in (map (λ (p : MCtor × PieceState). p.0) pieces) →
      (none ≡ true → pieces ≡ as_present ctors) → (none ≡ false → IsColumnSplit IsValue cx o heads pieces) →
      (none ≡ true → behind ≡ []) → (none ≡ false → 0 < length behind) →
      (missing ≡ true → Witnesses cx IsValue places (wild_rests rows) behind) → (missing ≡ false → behind ≡ []) →
      IsCutOf cx IsValue o places rows leaves ctors spans pieces named behind
  cut_is columns leaves ctors heads gaps missing true spans pieces named behind t a c f s n p q b d m k =
      cut_present columns leaves ctors heads gaps missing spans pieces named behind t a c f s (p refl) (λ e. subst (Witnesses cx IsValue places (wild_rests rows)) (b refl) (m e))
  cut_is columns leaves ctors heads gaps true false spans pieces named behind t a c f s n p q b d m k =
      cut_all columns leaves ctors heads gaps true spans pieces named behind t c f s (q refl) n (m refl)
  cut_is columns leaves ctors heads gaps false false spans pieces named behind t a c f s n p q b d m k =
      absurd (let l = d refl in omega (arith, l, ap length (k refl)))
