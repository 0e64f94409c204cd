-- The steps at a column of a well-formed row: what the columns before decide and bind has other numbers and names.
use Rattle.std.proofs.Common.{◌≡◌, ◌<◌, ◌≤◌, inl, inr, ℕ, zero, suc, ◌+◌, Bool, true, false, not, ◌&&◌, ◌||◌, List, [], ◌∷◌, ◌++◌, map, Option, Some, None, slice_get, refl, sym, ap, ◌∙◌, subst, Equal}
use Rattle.std.specs.List.{flat_map, list_all, list_any}
use Rattle.std.proofs.lemmas.Bool.{cases_lt}
use Rattle.std.specs.Ordering.{is_eq}
use Rattle.std.proofs.lemmas.Map.Text.{is_eq-slice_cmp}
use Rattle.match_model.specs.Values.{MValue}
use Rattle.match_model.specs.Texts.{text_eq, compare_texts}
use Rattle.match_model.specs.Ways.{Way, Binding, bind_into}
use Rattle.match_model.specs.ArenaPatterns.{MBound}
use Rattle.match_model.specs.ArenaWays.{arena_ways}
use Rattle.match_model.specs.Places.{MStep, part_at, position_at}
use Rattle.match_model.specs.Trees.{MBind, bindings_in}
use Rattle.match_model.specs.Rows.{Head}
use Rattle.match_model.specs.Matrices.{MColumn, ways_at, head_ways, under_all, bind_at}
use Rattle.match_model.specs.WellTyped.{is_new, are_apart, names_in, head_names, head_names_differ, heads_names_differ}
use Rattle.match_model.proofs.Basics.{both, text_itself, text_equal}
use Rattle.match_model.specs.Keys.{Decision, Key}
use Rattle.keyed_rows.specs.Dividing.{IsWithin, replacement_key, head_count, IsHeadNumbered, AreFree, Divides, GoodAt}
use Rattle.match_model.specs.Lists.{Every, Among}
use Rattle.match_model.specs.Numbering.{or_count, way_key}
use Rattle.match_model.specs.Steps.{Replacement, with_head, with_others, replacements_at}
use Rattle.keyed_rows.proofs.Lists.{every-map, every-to}
use Rattle.keyed_rows.proofs.ArmWays.{pat-fine}
use Rattle.keyed_rows.proofs.Parting.{among-every, among-map, Left, free-step}
use Rattle.keyed_rows.proofs.Bindings.{Canonical, Differ, Apart}
use Rattle.keyed_rows.proofs.PullOut.{left-among, right-among, Separate, times-swap, done_of, replacement_done, HeadKeeps, StepsAt}
use Rattle.keyed_rows.proofs.StepSame.{caught-canonical}
use Rattle.keyed_rows.proofs.Canonical.{Named, named-into, Neat, pat-neat}

equal-texts : (n m : List ℕ) → compare_texts n m ≡ Equal → n ≡ m
equal-texts n m e = text_equal n m (sym (is_eq-slice_cmp n m) ∙ ap is_eq e)

-- names of the one are none of the other
apart-names : (names others : List (List ℕ)) (n m : List ℕ) → are_apart names others ≡ true → Among n names →
    Among m others → compare_texts n m ≡ Equal → ⊥
apart-names names [] n m h i j e = j
apart-names names (o ∷ others) n m h i (inl k) e =
    new names (both (is_new names o) (list_all (is_new names) others) h).0 i
  where
    same : n ≡ o
    same = equal-texts n m e ∙ k

    untrue : (b : Bool) → b ≡ true → not b ≡ true → ⊥
    untrue b p q = cc

    either : (a b : Bool) → a ≡ true → (a || b) ≡ true
    either true b p = refl
    either false b p = cc

    later : (a b : Bool) → not (a || b) ≡ true → not b ≡ true
    later true b p = cc
    later false b p = p

    new : (ns : List (List ℕ)) → is_new ns o ≡ true → Among n ns → ⊥
    new [] p i = i
    new (x ∷ ns) p (inl q) =
        let t : text_eq o x ≡ true = subst (λ y. text_eq o y ≡ true) (sym same ∙ q) (text_itself o) in
        untrue (list_any (text_eq o) (x ∷ ns)) (either (text_eq o x) (list_any (text_eq o) ns) t) p
    new (x ∷ ns) p (inr i) = new ns (later (text_eq o x) (list_any (text_eq o) ns) p) i
apart-names names (o ∷ others) n m h i (inr j) e =
    apart-names names others n m (both (is_new names o) (list_all (is_new names) others) h).1 i j e

apart-lists : (names others : List (List ℕ)) (xs ys : List Binding) → are_apart names others ≡ true → Named names xs →
    Named others ys → Apart xs ys
apart-lists names others [] ys h m n = tt
apart-lists names others (x ∷ xs) ys h m n = (each ys n, apart-lists names others xs ys h m.1 n)
  where
    each : (zs : List Binding) → Named others zs → Every (Differ x) zs
    each [] k = tt
    each (z ∷ zs) k = ((λ e. apart-names names others x.name z.name h m.0 k.0 e), each zs k.1)

module _ (v : MValue) where
  -- what is caught has the names of what is bound
  caught-named : (names : List (List ℕ)) (bs : List MBind) → Every (λ b. Among b.name names) bs →
      Named names (bindings_in v bs)
  caught-named names [] h = tt
  caught-named names (b ∷ bs) h = go (part_at b.place v) (caught-named names bs h.1)
    where
      go : (o : Option MValue) → Named names (bindings_in v bs) →
          Named names (elim o [
            | None ↦ bindings_in v bs
            | Some u ↦ bind_into
                (record { name = b.name; mode = b.mode; value = u }) (bindings_in v bs)
          ])
      go None k = k
      go (Some u) k = named-into names (record { name = b.name; mode = b.mode; value = u }) (bindings_in v bs) h.0 k

under-same : (is : List ℕ) (w : Way) → ((under_all is w).trace ≡ w.trace) × ((under_all is w).bindings ≡ w.bindings)
under-same [] w = (refl, refl)
under-same (i ∷ is) w = under-same is w

placed-named : (place : List MStep) (names : List (List ℕ)) (bs : List MBound) → Every (λ b. Among b.name names) bs →
    Every (λ (b : MBind). Among b.name names) (map (bind_at place) bs)
placed-named place names bs h =
    every-map (λ b. Among b.name names) (λ (b : MBind). Among b.name names) (bind_at place) bs (λ b k. k) h

module _ {T : Type 0} (decides : ℕ → Decision) where
  -- a way of a head that is numbered from `n`
  record HeadWay (n : ℕ) (h : Head T) (a : Way) : Type 0 where
    pub above : (o : ℕ) → head_count h + n ≤ o → way_key decides a o ≡ None
    pub neat : Neat (head_names h) a

  head-way : (n : ℕ) (h : Head T) (u : MValue) (a : Way) → IsHeadNumbered decides n h → Among a (head_ways h u) →
      HeadWay n h a
  head-way n None u a i (inl e) =
      record {
        above = λ o l. ap (λ w. way_key decides w o) e;
        neat = subst (Neat []) (sym e)
            (record { canonical = refl; named = tt });
      }
  head-way n None u a i (inr j) = elim j [ ]
  head-way n (Some p) u a i j = record {
    above =
        (among-every (λ w. IsWithin n (or_count p + n) (way_key decides w)) (arena_ways p u) a
        (pat-fine decides p n u i).within j).above;
    neat = among-every (Neat (names_in p)) (arena_ways p u) a (pat-neat p u) j;
  }

  way-at : (n : ℕ) (h : Head T) (o : Option (List ℕ)) (u : Option MValue) (a : Way) → IsHeadNumbered decides n h →
      Among a (ways_at o u h) → HeadWay n h a
  way-at n h None u a i j = elim j [ ]
  way-at n h (Some is) None a i j = elim j [ ]
  way-at n h (Some is) (Some u) a i j =
      let m = among-map (under_all is) (head_ways h u) a j in
      let w = head-way n h u m.0 i m.1 in
      let trace : a.trace ≡ m.0.trace = ap (λ x. x.trace) m.2 ∙ (under-same is m.0).0 in
      let bindings : a.bindings ≡ m.0.bindings = ap (λ x. x.bindings) m.2 ∙ (under-same is m.0).1 in
      record {
        above = λ q l. ap (λ t. keyed t q) trace ∙ w.above q l;
        neat =
            record {
              canonical = subst Canonical (sym bindings) w.neat.canonical;
              named = subst (Named (head_names h))
                  (sym bindings) w.neat.named;
            };
      }
    where
      keyed : List ℕ → ℕ → Option ℕ
      keyed t q = way_key decides (record { trace = t; bindings = []; spans = [] }) q

  pub canonical-at : (n : ℕ) (h : Head T) (o : Option (List ℕ)) (u : Option MValue) (a : Way) →
      IsHeadNumbered decides n h → Among a (ways_at o u h) → Canonical a.bindings
  canonical-at n h o u a i j = (way-at n h o u a i j).neat.canonical

  -- a step that binds names of its head alone
  abbrev pub BindsOwn : (Head T → List (Replacement T)) → Type 0
  BindsOwn f = (h : Head T) (y : Replacement T) → Among y (f h) → Every (λ b. Among b.name (head_names h)) y.binds

  replacements-named : (f : Head T → List (Replacement T)) → BindsOwn f →
      (i : ℕ) (hs : List (Head T)) (y : Replacement T) →
      Among y (replacements_at f i hs) → Every (λ b. Among b.name (flat_map head_names hs)) y.binds
  replacements-named f own i [] y a = elim a [ ]
  replacements-named f own zero (h ∷ hs) y a =
      let m = among-map (with_others hs) (f h) y a in
      subst (λ (l : List MBound). Every (λ b. Among b.name (head_names h ++ flat_map head_names hs)) l)
      (sym (ap (λ x. x.binds) m.2))
      (every-to _ _ m.0.binds (λ b k. left-among (head_names h) (flat_map head_names hs) b.name k) (own h m.0 m.1))
  replacements-named f own (suc i) (h ∷ hs) y a =
      let m = among-map (with_head h) (replacements_at f i hs) y a in
      subst (λ (l : List MBound). Every (λ b. Among b.name (head_names h ++ flat_map head_names hs)) l)
      (sym (ap (λ x. x.binds) m.2))
      (every-to _ _ m.0.binds (λ b k. right-among (head_names h) (flat_map head_names hs) b.name k)
      (replacements-named f own i hs m.0 m.1))

  module _ (Good : Head T → Type 0) (width : ℕ) (f : Head T → List (Replacement T))
      (divides : Divides decides Good width f) (own : BindsOwn f) (e : MColumn T) (new : List (MColumn T))
      (v : MValue) where
    -- a well-formed row takes the step at any column
    pub steps-at : (k : Key) (low i : ℕ) (cs : List (MColumn T)) (hs : List (Head T)) (caught : List (List ℕ)) →
        slice_get cs i ≡ Some e → AreFree decides k low hs → GoodAt Good i hs → heads_names_differ caught hs ≡ true →
        (h : Head T) → slice_get hs i ≡ Some h → HeadKeeps decides f e new v h → StepsAt decides f e new v i cs hs
    steps-at k low i [] hs caught there free good names h at keeps = cc
    steps-at k low i (c ∷ cs) [] caught there free good names h at keeps = cc
    steps-at k low zero (c ∷ cs) (g ∷ hs) caught there free good names h at keeps =
        let same : g ≡ h = cc in
        let column : c ≡ e = cc in
        (column, subst (HeadKeeps decides f e new v) (sym same) keeps)
    steps-at k low (suc i) (c ∷ cs) (g ∷ hs) caught there free good names h at keeps = (
      (λ a j y m. times-swap (done_of decides a) (replacement_done decides e.place v y)
          (separate a y (way-at free.0 g (position_at c.place v) (part_at c.place v) a free.2 j).above (late y m))
          (way-at free.0 g (position_at c.place v) (part_at c.place v) a free.2 j).neat.canonical
          (caught-canonical v (map (bind_at e.place) y.binds))
          (apart-lists (head_names g) (flat_map head_names hs) a.bindings
          (bindings_in v (map (bind_at e.place) y.binds)) apart (way-at free.0 g (position_at c.place v)
          (part_at c.place v) a free.2 j).neat.named
          (caught-named v (flat_map head_names hs) (map (bind_at e.place) y.binds)
          (placed-named e.place (flat_map head_names hs) y.binds (replacements-named f own i hs y m))))),
      steps-at k (head_count g + free.0) i cs hs caught there free.4 good rest h at keeps,
    )
      where
        halves : (head_names_differ g ≡ true) ×
            ((are_apart caught (head_names g) && (are_apart (head_names g)
            (flat_map head_names hs) && heads_names_differ caught hs)) ≡ true)
        halves =
            both (head_names_differ g) (are_apart caught (head_names g) &&
            (are_apart (head_names g) (flat_map head_names hs) && heads_names_differ caught hs)) names

        others : (are_apart caught (head_names g) ≡ true) ×
            ((are_apart (head_names g) (flat_map head_names hs) && heads_names_differ caught hs) ≡ true)
        others =
            both (are_apart caught (head_names g)) (are_apart (head_names g)
            (flat_map head_names hs) && heads_names_differ caught hs) halves.1

        apart : are_apart (head_names g) (flat_map head_names hs) ≡ true
        apart = (both (are_apart (head_names g) (flat_map head_names hs)) (heads_names_differ caught hs) others.1).0

        rest : heads_names_differ caught hs ≡ true
        rest = (both (are_apart (head_names g) (flat_map head_names hs)) (heads_names_differ caught hs) others.1).1

        late : (y : Replacement T) → Among y (replacements_at f i hs) → (o : ℕ) → o < head_count g + free.0 →
            replacement_key decides y o ≡ None
        late y m =
            (among-every (Left decides k (head_count g + free.0)) (replacements_at f i hs) y
            (free-step decides Good width f divides k (head_count g + free.0) i hs good free.4) m).late

        separate : (a : Way) (y : Replacement T) → ((o : ℕ) → head_count g + free.0 ≤ o → way_key decides a o ≡ None) →
            ((o : ℕ) → o < head_count g + free.0 → replacement_key decides y o ≡ None) →
            Separate (way_key decides a) (replacement_key decides y)
        separate a y p q o = elim (cases_lt o (head_count g + free.0)) [ inl l ↦ inr (q o l) | inr l ↦ inl (p o l) ]
