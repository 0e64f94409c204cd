-- The rows that the search begins with.
use Rattle.std.proofs.Common.{◌≡◌, ◌≢◌, ◌<◌, ℕ, suc, Bool, true, false, cond, List, [], ◌∷◌, ◌++◌, map, length, Some, None, refl, sym, ap, subst, ◌∙◌, arith}
use Rattle.std.specs.List.{flat_map, Contains, All}
use Rattle.std.proofs.lemmas.List.Elements.{All-cons, All-nil}
use Rattle.match_model.specs.Values.{MValue, Unseen}
use Rattle.match_model.specs.Contexts.{Context, Open}
use Rattle.match_model.specs.ContextLaws.{PartsLaw, ValuesLaw}
use Rattle.match_model.specs.ArenaPatterns.{MDePat, MDeArm, MDeMatch}
use Rattle.match_model.specs.Rows.{is_wild}
use Rattle.match_model.specs.WellTyped.{IsTyped, IsWellTyped}
use Rattle.match_model.specs.Witness.{MWitness}
use Rattle.match_model.specs.WitnessList.{Witnesses, IsWitnessList, by_rows, row_of}
use Rattle.match_model.proofs.Basics.{nat_itself}
use Rattle.pattern_matrix.specs.HeadRows.{cols, AllTyped}
use Rattle.pattern_matrix.proofs.HandingOn.{here}
use Rattle.pattern_matrix.proofs.Exact.{AreLong, long_stacks}
use Rattle.pattern_matrix.specs.Sparse.{SparseRow, bare_head, head_at, AreBelow, AreHeadsBelow}
use Rattle.witnesses.specs.declared.stack.Stack.{Stack}
use Rattle.witnesses.specs.Views.{plain_stack}
use Rattle.usefulness.specs.Covering.{scope_asked}
use Rattle.usefulness.specs.Frames.{IsHeadIn, IsRowIn}
use Rattle.usefulness.specs.Scope.{patterns_in, patterns_of}
use Rattle.usefulness.proofs.Inside.{itself_in}
use Rattle.usefulness.proofs.Looking.{in_left, in_right}
use Rattle.witness_search.specs.Askable.{unwanted_all, AreRowsOf, AreAskable}
use Rattle.witness_search.specs.Bares.{bares}
use Rattle.witness_search.specs.Starts.{starting_heads, starting_row, starting_rows}
use Rattle.witness_search.specs.Wells.{heads_over, IsWell}
use Rattle.witness_search.proofs.Rebare.{rows_twice, rebare}
use Rattle.witness_search.proofs.Heads.{bare_typed}

abbrev pub first_open : {T : Type 0} → MDeMatch T → Open T
first_open m = record { type = m.type; sure = m.sure }

-- ---- what the rows are

start_at : {T : Type 0} (p : MDePat T) (b : Bool) → is_wild (Some p) ≡ b → head_at (starting_heads p) 0 ≡ bare_head (Some p)
start_at p true e = ap (λ b. head_at (cond b [] ((0, p) ∷ [])) 0) e ∙ sym (ap (λ b. cond b None (Some p)) e)
start_at p false e =
    ap (λ b. head_at (cond b [] ((0, p) ∷ [])) 0) e ∙ ap (λ b. cond b (bare_head (Some p)) None) (nat_itself 0)

pub starting_heads_are : {T : Type 0} (arms : List (MDeArm T)) → heads_over (0 ∷ []) (starting_rows arms) ≡ bares (flat_map row_of arms)
starting_heads_are [] = refl
starting_heads_are {T = T} (a ∷ arms) = go a.guarded (starting_heads_are arms)
  where
    go : (g : Bool) → heads_over (0 ∷ []) (starting_rows arms) ≡ bares (flat_map row_of arms) →
        heads_over (0 ∷ []) (starting_row (record { pat = a.pat; guarded = g }) ++ starting_rows arms) ≡ bares (row_of (record { pat = a.pat; guarded = g }) ++ flat_map row_of arms)
    go true e = e
    go false e =
        ap (λ h. (h ∷ []) ∷ heads_over (0 ∷ []) (starting_rows arms)) (start_at a.pat (is_wild (Some a.pat)) refl)
        ∙ ap (λ xs. (bare_head (Some a.pat) ∷ []) ∷ xs) e

heads_below : {T : Type 0} (p : MDePat T) (b : Bool) → is_wild (Some p) ≡ b → AreHeadsBelow 1 (starting_heads p)
heads_below p true e = subst (λ b. AreHeadsBelow 1 (cond b [] ((0, p) ∷ []))) (sym e) (All-nil (λ h. h.0 < 1))
heads_below p false e = subst (λ b. AreHeadsBelow 1 (cond b [] ((0, p) ∷ []))) (sym e) (All-cons (λ h. h.0 < 1) (0, p) [] (omega arith) (All-nil (λ h. h.0 < 1)))

starting_below : {T : Type 0} (arms : List (MDeArm T)) → AreBelow 1 (starting_rows arms)
starting_below [] = All-nil (λ r. AreHeadsBelow 1 r.heads)
starting_below {T = T} (a ∷ arms) = go a.guarded (starting_below arms)
  where
    go : (g : Bool) → AreBelow 1 (starting_rows arms) → AreBelow 1 (starting_row (record { pat = a.pat; guarded = g }) ++ starting_rows arms)
    go true k = k
    go false k = All-cons (λ r. AreHeadsBelow 1 r.heads) (record { heads = starting_heads a.pat; arm = 0; guarded = false; chosen = [] }) (starting_rows arms) (heads_below a.pat (is_wild (Some a.pat)) refl) k

-- ---- their types

abbrev AreArmsOf : {T : Type 0} → Context T → T → List (MDeArm T) → Type 0
AreArmsOf cx t [] = Unit {0}
AreArmsOf cx t (a ∷ arms) = IsTyped cx t a.pat × AreArmsOf cx t arms

arms_of : {T : Type 0} (cx : Context T) (t : T) (arms : List (MDeArm T)) → ((a : MDeArm T) → Contains arms a → IsTyped cx t a.pat) → AreArmsOf cx t arms
arms_of cx t [] f = tt
arms_of cx t (a ∷ arms) f = (f a (0, omega arith, refl), arms_of cx t arms (λ b (k, l, e). f b (suc k, omega (arith, l), e)))

rows_typed : {T : Type 0} (cx : Context T) (o : Open T) (arms : List (MDeArm T)) → AreArmsOf cx o.type arms → AllTyped cx (cols (o ∷ [])) (flat_map row_of arms)
rows_typed cx o [] h = tt
rows_typed cx o (a ∷ arms) h = go a.guarded h.0 (rows_typed cx o arms h.1)
  where
    go : (g : Bool) → IsTyped cx o.type a.pat → AllTyped cx (cols (o ∷ [])) (flat_map row_of arms) → AllTyped cx (cols (o ∷ [])) (row_of (record { pat = a.pat; guarded = g }) ++ flat_map row_of arms)
    go true h k = k
    go false h k = ((h, tt), k)

pub first_well : {T : Type 0} (IsType : T → Type 0) (cx : Context T) (m : MDeMatch T) (numbers : List ℕ) (places : List (Open T)) (rows : List (SparseRow T)) → IsWellTyped IsType cx m →
    numbers ≡ 0 ∷ [] → places ≡ first_open m ∷ [] → rows ≡ starting_rows m.arms → IsWell IsType cx 1 numbers places rows
first_well IsType cx m numbers places rows w en ep er =
    subst (λ ns. IsWell IsType cx 1 ns places rows) (sym en)
    (subst (λ ps. IsWell IsType cx 1 (0 ∷ []) ps rows) (sym ep)
    (subst (λ rs. IsWell IsType cx 1 (0 ∷ []) (first_open m ∷ []) rs) (sym er)
    (record {
      types = (w.type, tt);
      typed = subst (AllTyped cx (cols (first_open m ∷ []))) (sym (starting_heads_are m.arms))
          (bare_typed cx (cols (first_open m ∷ [])) (flat_map row_of m.arms) (rows_typed cx (first_open m) m.arms (arms_of cx m.type m.arms w.typed)));
      below = starting_below m.arms;
      numbers_below = All-cons (λ c. c < 1) 0 [] (omega arith) (All-nil (λ c. c < 1));
      apart = (All-nil (λ d. d ≢ 0), tt);
      as_many = refl;
    })))

-- ---- they may be asked for

starts_of : {T : Type 0} (all : List (MDeArm T)) (p : MDePat T) (b : Bool) → is_wild (Some p) ≡ b → Contains (patterns_of all) p →
    All (IsHeadIn (scope_asked all) (0 ∷ [])) (cond b [] ((0, p) ∷ []))
starts_of all p true e k = All-nil (IsHeadIn (scope_asked all) (0 ∷ []))
starts_of all p false e k =
    All-cons (IsHeadIn (scope_asked all) (0 ∷ [])) (0, p) [] (record { column = here 0 []; sharp = e; known = k }) (All-nil (IsHeadIn (scope_asked all) (0 ∷ [])))

starting_of : {T : Type 0} (all arms : List (MDeArm T)) → ((p : MDePat T) → Contains (patterns_of arms) p → Contains (patterns_of all) p) → AreRowsOf all (0 ∷ []) (starting_rows arms)
starting_of all [] f = All-nil (IsRowIn (scope_asked all) (0 ∷ []))
starting_of {T = T} all (a ∷ arms) f =
    go a.guarded (f a.pat (in_left (patterns_in a.pat) (patterns_of arms) a.pat (itself_in a.pat))) (starting_of all arms (λ p i. f p (in_right (patterns_in a.pat) (patterns_of arms) p i)))
  where
    go : (g : Bool) → Contains (patterns_of all) a.pat → AreRowsOf all (0 ∷ []) (starting_rows arms) → AreRowsOf all (0 ∷ []) (starting_row (record { pat = a.pat; guarded = g }) ++ starting_rows arms)
    go true k r = r
    go false k r =
        All-cons (IsRowIn (scope_asked all) (0 ∷ [])) (record { row = record { heads = starting_heads a.pat; arm = 0; guarded = false; chosen = [] }; wanted = false }) (unwanted_all (starting_rows arms))
        (record { arm = omega arith; heads = starts_of all a.pat (is_wild (Some a.pat)) refl k }) r

pub first_askable : {T : Type 0} (IsValue : T → Bool → MValue → Type 0) (m : MDeMatch T) (numbers : List ℕ) (places : List (Open T)) → numbers ≡ 0 ∷ [] → places ≡ first_open m ∷ [] →
    (v : MValue) → IsValue m.type m.sure v → AreAskable IsValue m.arms numbers places (starting_rows m.arms)
first_askable IsValue m numbers places en ep v k =
    subst (λ ns. AreAskable IsValue m.arms ns places (starting_rows m.arms)) (sym en)
    (subst (λ ps. AreAskable IsValue m.arms (0 ∷ []) ps (starting_rows m.arms)) (sym ep)
    (record { some = (v ∷ [], (k, tt)); known = starting_of m.arms m.arms (λ p i. i) }))

-- ---- what is found of them

pub first_back : {T : Type 0} (cx : Context T) (IsValue : T → Bool → MValue → Type 0) (m : MDeMatch T) (numbers : List ℕ) (places : List (Open T)) (rows : List (SparseRow T)) →
    numbers ≡ 0 ∷ [] → places ≡ first_open m ∷ [] → rows ≡ starting_rows m.arms → (ws : List (List MWitness)) → Witnesses cx IsValue places (heads_over numbers rows) ws →
    Witnesses cx IsValue (first_open m ∷ []) (flat_map row_of m.arms) ws
first_back cx IsValue m numbers places rows en ep er ws h =
    rebare cx IsValue
    (subst (λ ps. Witnesses cx IsValue ps (heads_over (0 ∷ []) (starting_rows m.arms)) ws) ep
    (subst (λ rs. Witnesses cx IsValue places (heads_over (0 ∷ []) rs) ws) er
    (subst (λ ns. Witnesses cx IsValue places (heads_over ns rows) ws) en h)))
    (flat_map row_of m.arms) (ap bares (starting_heads_are m.arms) ∙ rows_twice (flat_map row_of m.arms))

-- ---- the end

each_alone : (stacks : List Stack) → AreLong 1 (map plain_stack stacks) → All (λ s. length (plain_stack s) ≡ 1) stacks
each_alone [] h = All-nil (λ s. length (plain_stack s) ≡ 1)
each_alone (s ∷ stacks) h = All-cons (λ x. length (plain_stack x) ≡ 1) s stacks h.0 (each_alone stacks h.1)

pub list_back : {T : Type 0} (cx : Context T) (IsValue : T → Bool → MValue → Type 0) (m : MDeMatch T) → (v : MValue) × IsValue m.type m.sure v × (v ≢ Unseen) →
    (found : List (List MWitness)) (ws : List MWitness) → Witnesses cx IsValue (first_open m ∷ []) (flat_map row_of m.arms) found → map (λ w. w ∷ []) ws ≡ found → IsWitnessList cx IsValue m ws
list_back cx IsValue m (v, k, u) found ws h g = by_rows v ws k u (subst (Witnesses cx IsValue (first_open m ∷ []) (flat_map row_of m.arms)) (sym g) h)

pub stacks_alone : {T : Type 0} (IsType : T → Type 0) (IsValue : T → Bool → MValue → Type 0) (cx : Context T) (values : ValuesLaw IsType IsValue cx) (law : PartsLaw IsType IsValue cx) (m : MDeMatch T)
    (stacks : List Stack) → Witnesses cx IsValue (first_open m ∷ []) (flat_map row_of m.arms) (map plain_stack stacks) → All (λ s. length (plain_stack s) ≡ 1) stacks
stacks_alone IsType IsValue cx values law m stacks h =
    each_alone stacks (long_stacks IsType IsValue cx values law (first_open m ∷ []) (flat_map row_of m.arms) (map plain_stack stacks) h)
