-- The traces of the ways of heads on values, where or-patterns are expanded.
use Rattle.std.proofs.Common.{◌≡◌, ℕ, Bool, true, false, List, [], ◌∷◌, ◌++◌, map, cond, Some, refl, sym, ap, ◌∙◌}
use Rattle.std.proofs.Common.{append_assoc}
use Rattle.std.specs.List.{flat_map}
use Rattle.std.proofs.lemmas.List.{map-append, append-nil}
use Rattle.match_model.specs.Values.{MValue, parts_of}
use Rattle.match_model.specs.Ways.{Way, join, combine, under}
use Rattle.match_model.specs.Places.{some_if}
use Rattle.match_model.specs.Matching.{span_way}
use Rattle.match_model.specs.Constructors.{MCtor, SingleCtor, PointCtor, LaterCtor, OtherTextCtor, VariantCtor, FlagCtor, NumbersCtor, TextCtor, RowCtor, WildCtor, OrCtor, builds}
use Rattle.match_model.specs.ArenaPatterns.{MBound, MDePat, de_pat, MDePats, no_de_pats, more_de_pats, de_pats_list, uid_of}
use Rattle.match_model.specs.ArenaWays.{NumberedPart, numbered_from, parts_met, parts_built, ways_where, with_bounds, with_spans_of, ways_by_ctor, chosen_of, arena_ways, subs_ways, arena_alternatives_ways}
use Rattle.match_model.specs.Rows.{Head, Choice, choices_of, all_choices_of, choice_among, with_binds, choices_by}
use Rattle.match_model.specs.Matrices.{head_ways}
use Rattle.pattern_matrix.proofs.Takes.{met_parts}

-- lists of traces

-- the traces with this one in front
abbrev pub behind : List ℕ → List (List ℕ) → List (List ℕ)
behind a bs = map (λ b. a ++ b) bs

-- all combinations of a trace of the first and a trace of the second; the first varies slowest
abbrev pub joined : List (List ℕ) → List (List ℕ) → List (List ℕ)
joined us bs = flat_map (λ a. behind a bs) us

-- the traces of a head's ways on a value
abbrev pub head_traces : {T : Type 0} → Head T → MValue → List (List ℕ)
head_traces h v = map (λ w. w.trace) (head_ways h v)

-- the traces of the heads' ways on the values, one by one
abbrev pub row_traces : {T : Type 0} → List (Head T) → List MValue → List (List ℕ)
row_traces [] [] = [] ∷ []
row_traces [] (v ∷ vs) = []
row_traces (h ∷ heads) [] = []
row_traces (h ∷ heads) (v ∷ vs) = joined (head_traces h v) (row_traces heads vs)

pub behind_none : (ts : List (List ℕ)) → behind [] ts ≡ ts
behind_none [] = refl
behind_none (t ∷ ts) = ap (λ xs. t ∷ xs) (behind_none ts)

behind_both : (a b : List ℕ) (ts : List (List ℕ)) → behind a (behind b ts) ≡ behind (a ++ b) ts
behind_both a b [] = refl
behind_both a b (t ∷ ts) = ap (λ x. x ∷ behind a (behind b ts)) (sym (append_assoc a b t)) ∙ ap (λ xs. ((a ++ b) ++ t) ∷ xs) (behind_both a b ts)

joined-append : (us bs cs : List (List ℕ)) → joined (us ++ bs) cs ≡ joined us cs ++ joined bs cs
joined-append [] bs cs = refl
joined-append (a ∷ us) bs cs = ap (λ xs. behind a cs ++ xs) (joined-append us bs cs) ∙ sym (append_assoc (behind a cs) (joined us cs) (joined bs cs))

pub behind_joined : (a : List ℕ) (bs cs : List (List ℕ)) → behind a (joined bs cs) ≡ joined (behind a bs) cs
behind_joined a [] cs = refl
behind_joined a (b ∷ bs) cs = map-append (λ t. a ++ t) (behind b cs) (joined bs cs) ∙ ap (λ xs. xs ++ behind a (joined bs cs)) (behind_both a b cs) ∙ ap (λ xs. behind (a ++ b) cs ++ xs) (behind_joined a bs cs)

pub joined-assoc : (us bs cs : List (List ℕ)) → joined (joined us bs) cs ≡ joined us (joined bs cs)
joined-assoc [] bs cs = refl
joined-assoc (a ∷ us) bs cs =
    joined-append (behind a bs) (joined us bs) cs ∙ ap (λ xs. xs ++ joined (joined us bs) cs) (sym (behind_joined a bs cs)) ∙ ap (λ xs. behind a (joined bs cs) ++ xs) (joined-assoc us bs cs)

pub joined_one : (ts : List (List ℕ)) → joined ([] ∷ []) ts ≡ ts
joined_one ts = append-nil (behind [] ts) ∙ behind_none ts

-- ways

same_traces : (f : Way → Way) → ((w : Way) → (f w).trace ≡ w.trace) → (ws : List Way) → map (λ w. w.trace) (map f ws) ≡ map (λ w. w.trace) ws
same_traces f e [] = refl
same_traces f e (w ∷ ws) = ap (λ t. t ∷ map (λ w. w.trace) (map f ws)) (e w) ∙ ap (λ xs. w.trace ∷ xs) (same_traces f e ws)

more_traces : (f : Way → Way) (x : List ℕ) → ((w : Way) → (f w).trace ≡ x ++ w.trace) → (ws : List Way) → map (λ w. w.trace) (map f ws) ≡ behind x (map (λ w. w.trace) ws)
more_traces f x e [] = refl
more_traces f x e (w ∷ ws) = ap (λ t. t ∷ map (λ w. w.trace) (map f ws)) (e w) ∙ ap (λ xs. (x ++ w.trace) ∷ xs) (more_traces f x e ws)

combine_traces : (ws us : List Way) → map (λ w. w.trace) (combine ws us) ≡ joined (map (λ w. w.trace) ws) (map (λ w. w.trace) us)
combine_traces [] us = refl
combine_traces (w ∷ ws) us =
    map-append (λ w. w.trace) (map (join w) us) (combine ws us)
    ∙ ap (λ xs. xs ++ map (λ w. w.trace) (combine ws us)) (more_traces (join w) w.trace (λ u. refl) us)
    ∙ ap (λ xs. behind w.trace (map (λ w. w.trace) us) ++ xs) (combine_traces ws us)

bound_trace : (binds : List MBound) (v : MValue) (w : Way) → (with_bounds binds v w).trace ≡ w.trace
bound_trace [] v w = refl
bound_trace (b ∷ rest) v w = bound_trace rest v w

-- patterns

pub subs_trace : {T : Type 0} (subs : MDePats T) (parts : List NumberedPart) → map (λ w. w.trace) (subs_ways subs parts) ≡ row_traces (map Some (de_pats_list subs)) (map (λ n. n.part) parts)
subs_trace no_de_pats [] = refl
subs_trace no_de_pats (n ∷ parts) = refl
subs_trace (more_de_pats p ps) [] = refl
subs_trace (more_de_pats p ps) (n ∷ parts) =
    combine_traces (map (under n.number) (arena_ways p n.part)) (subs_ways ps parts)
    ∙ ap (λ ts. joined ts (map (λ w. w.trace) (subs_ways ps parts))) (same_traces (under n.number) (λ w. refl) (arena_ways p n.part))
    ∙ ap (joined (head_traces (Some p) n.part)) (subs_trace ps parts)

-- the traces of a pattern of a constructor: those of its parts, where the constructor builds the value
abbrev pub ctor_traces : {T : Type 0} → MCtor → MDePats T → MValue → List (List ℕ)
ctor_traces c subs v = cond (builds [] c v) (row_traces (map Some (de_pats_list subs)) (parts_met c (parts_of v))) []

built_traces : {T : Type 0} (c : MCtor) (subs : MDePats T) (v : MValue) → map (λ w. w.trace) (ways_where (parts_built c v) (λ parts. subs_ways subs parts)) ≡ ctor_traces c subs v
built_traces c subs v = go (builds [] c v)
  where
    go : (b : Bool) → map (λ w. w.trace) (ways_where (some_if b (parts_met c (numbered_from 0 (parts_of v)))) (λ parts. subs_ways subs parts)) ≡ cond b (row_traces (map Some (de_pats_list subs)) (parts_met c (parts_of v))) []
    go true = subs_trace subs (parts_met c (numbered_from 0 (parts_of v))) ∙ ap (row_traces (map Some (de_pats_list subs))) (met_parts c 0 (parts_of v))
    go false = refl

abbrev pub traced_by : {T : Type 0} → MCtor → MDePats T → MValue → (alternatives : List (List ℕ)) → List (List ℕ)
traced_by WildCtor subs v ts = [] ∷ []
traced_by OrCtor subs v ts = ts
traced_by c subs v ts = ctor_traces c subs v

abbrev pub other_traces : {T : Type 0} → MDePats T → MValue → List (List ℕ)
other_traces subs v = map (λ w. w.trace) (arena_alternatives_ways (chosen_of subs) subs v)

-- the traces of a pattern
pub pat_traces : {T : Type 0} (c : MCtor) (t : T) (uid at : ℕ) (subs : MDePats T) (binds : List MBound) (v : MValue) →
    head_traces (Some (de_pat c t uid at subs binds)) v ≡ traced_by c subs v (other_traces subs v)
pat_traces c t uid at subs binds v =
    same_traces (with_bounds binds v) (bound_trace binds v) (ways_by_ctor c at (λ u. arena_alternatives_ways (chosen_of subs) subs u) (λ parts. subs_ways subs parts) v) ∙ go c
  where
    go : (c : MCtor) → map (λ w. w.trace) (ways_by_ctor c at (λ u. arena_alternatives_ways (chosen_of subs) subs u) (λ parts. subs_ways subs parts) v) ≡ traced_by c subs v (other_traces subs v)
    go WildCtor = refl
    go OrCtor = refl
    go (NumbersCtor r) = same_traces (with_spans_of (span_way at r)) (λ w. refl) (ways_where (parts_built (NumbersCtor r) v) (λ parts. subs_ways subs parts)) ∙ built_traces (NumbersCtor r) subs v
    go SingleCtor = built_traces SingleCtor subs v
    go PointCtor = built_traces PointCtor subs v
    go LaterCtor = built_traces LaterCtor subs v
    go OtherTextCtor = built_traces OtherTextCtor subs v
    go (VariantCtor k) = built_traces (VariantCtor k) subs v
    go (FlagCtor b) = built_traces (FlagCtor b) subs v
    go (TextCtor x) = built_traces (TextCtor x) subs v
    go (RowCtor s) = built_traces (RowCtor s) subs v

-- or-patterns

abbrev pub choice_traces : {T : Type 0} → MValue → List (Choice T) → List (List ℕ)
choice_traces v cs = flat_map (λ c. behind c.chosen (head_traces (Some c.pat) v)) cs

choices-append : {T : Type 0} (v : MValue) (cs ds : List (Choice T)) → choice_traces v (cs ++ ds) ≡ choice_traces v cs ++ choice_traces v ds
choices-append v [] ds = refl
choices-append v (c ∷ cs) ds =
    let ts = behind c.chosen (head_traces (Some c.pat) v) in
    ap (λ xs. ts ++ xs) (choices-append v cs ds) ∙ sym (append_assoc ts (choice_traces v cs) (choice_traces v ds))

-- choices of which each has these in front
choices-map : {T : Type 0} (v : MValue) (f : Choice T → Choice T) (x : List ℕ) → ((c : Choice T) → (f c).pat ≡ c.pat) → ((c : Choice T) → (f c).chosen ≡ x ++ c.chosen) → (cs : List (Choice T)) →
    choice_traces v (map f cs) ≡ behind x (choice_traces v cs)
choices-map v f x p e [] = refl
choices-map {T} v f x p e (c ∷ cs) =
    ap (λ (q : MDePat T). behind (f c).chosen (head_traces (Some q) v) ++ choice_traces v (map f cs)) (p c)
    ∙ ap (λ y. behind y (head_traces (Some c.pat) v) ++ choice_traces v (map f cs)) (e c)
    ∙ ap (λ ts. ts ++ choice_traces v (map f cs)) (sym (behind_both x c.chosen (head_traces (Some c.pat) v)))
    ∙ ap (λ ts. behind x (behind c.chosen (head_traces (Some c.pat) v)) ++ ts) (choices-map v f x p e cs)
    ∙ sym (map-append (λ t. x ++ t) (behind c.chosen (head_traces (Some c.pat) v)) (choice_traces v cs))

-- what a choice among the alternatives puts in front
abbrev in_front : {T : Type 0} → MDePats T → ℕ → List ℕ
in_front no_de_pats uid = []
in_front (more_de_pats p no_de_pats) uid = []
in_front (more_de_pats p (more_de_pats q qs)) uid = uid ∷ []

among_pat : {T : Type 0} (subs : MDePats T) (uid : ℕ) (c : Choice T) → (choice_among subs uid c).pat ≡ c.pat
among_pat no_de_pats uid c = refl
among_pat (more_de_pats p no_de_pats) uid c = refl
among_pat (more_de_pats p (more_de_pats q qs)) uid c = refl

among_chosen : {T : Type 0} (subs : MDePats T) (uid : ℕ) (c : Choice T) → (choice_among subs uid c).chosen ≡ in_front subs uid ++ c.chosen
among_chosen no_de_pats uid c = refl
among_chosen (more_de_pats p no_de_pats) uid c = refl
among_chosen (more_de_pats p (more_de_pats q qs)) uid c = refl

chosen_trace : {T : Type 0} (subs : MDePats T) (uid : ℕ) (w : Way) → (chosen_of subs uid w).trace ≡ in_front subs uid ++ w.trace
chosen_trace no_de_pats uid w = refl
chosen_trace (more_de_pats p no_de_pats) uid w = refl
chosen_trace (more_de_pats p (more_de_pats q qs)) uid w = refl

mutual
  pub choices_trace : {T : Type 0} (p : MDePat T) (v : MValue) → choice_traces v (choices_of p) ≡ head_traces (Some p) v
  choices_trace {T} (de_pat c t uid at subs binds) v =
      go c (choices-map v (with_binds binds) [] (λ d. refl) (λ d. refl) (all_choices_of (choice_among subs) subs)
      ∙ behind_none (choice_traces v (all_choices_of (choice_among subs) subs))
      ∙ alternatives_trace (choice_among subs) (chosen_of subs) (in_front subs) (among_pat subs) (among_chosen subs) (chosen_trace subs) subs v)
    where
      self : (p : MDePat T) → choice_traces v (record { pat = p; chosen = []; binds = [] } ∷ []) ≡ head_traces (Some p) v
      self p = append-nil (behind [] (head_traces (Some p) v)) ∙ behind_none (head_traces (Some p) v)

      go : (c : MCtor) → choice_traces v (map (with_binds binds) (all_choices_of (choice_among subs) subs)) ≡ other_traces subs v →
          choice_traces v (choices_by c (map (with_binds binds) (all_choices_of (choice_among subs) subs)) (record { pat = de_pat c t uid at subs binds; chosen = []; binds = [] } ∷ []))
          ≡ head_traces (Some (de_pat c t uid at subs binds)) v
      go OrCtor e = e ∙ sym (pat_traces OrCtor t uid at subs binds v)
      go WildCtor e = self (de_pat WildCtor t uid at subs binds)
      go SingleCtor e = self (de_pat SingleCtor t uid at subs binds)
      go PointCtor e = self (de_pat PointCtor t uid at subs binds)
      go LaterCtor e = self (de_pat LaterCtor t uid at subs binds)
      go OtherTextCtor e = self (de_pat OtherTextCtor t uid at subs binds)
      go (VariantCtor k) e = self (de_pat (VariantCtor k) t uid at subs binds)
      go (FlagCtor b) e = self (de_pat (FlagCtor b) t uid at subs binds)
      go (NumbersCtor r) e = self (de_pat (NumbersCtor r) t uid at subs binds)
      go (TextCtor x) e = self (de_pat (TextCtor x) t uid at subs binds)
      go (RowCtor s) e = self (de_pat (RowCtor s) t uid at subs binds)

  alternatives_trace : {T : Type 0} (choose : ℕ → Choice T → Choice T) (chosen : ℕ → Way → Way) (front : ℕ → List ℕ) → ((u : ℕ) (d : Choice T) → (choose u d).pat ≡ d.pat) →
      ((u : ℕ) (d : Choice T) → (choose u d).chosen ≡ front u ++ d.chosen) → ((u : ℕ) (w : Way) → (chosen u w).trace ≡ front u ++ w.trace) → (ps : MDePats T) (v : MValue) →
      choice_traces v (all_choices_of choose ps) ≡ map (λ w. w.trace) (arena_alternatives_ways chosen ps v)
  alternatives_trace choose chosen front a b d no_de_pats v = refl
  alternatives_trace choose chosen front a b d (more_de_pats p ps) v =
      choices-append v (map (choose (uid_of p)) (choices_of p)) (all_choices_of choose ps)
      ∙ ap (λ ts. ts ++ choice_traces v (all_choices_of choose ps)) (choices-map v (choose (uid_of p)) (front (uid_of p)) (a (uid_of p)) (b (uid_of p)) (choices_of p) ∙ ap (behind (front (uid_of p))) (choices_trace p v))
      ∙ ap (λ ts. behind (front (uid_of p)) (head_traces (Some p) v) ++ ts) (alternatives_trace choose chosen front a b d ps v)
      ∙ ap (λ ts. ts ++ map (λ w. w.trace) (arena_alternatives_ways chosen ps v)) (sym (more_traces (chosen (uid_of p)) (front (uid_of p)) (d (uid_of p)) (arena_ways p v)))
      ∙ sym (map-append (λ w. w.trace) (map (chosen (uid_of p)) (arena_ways p v)) (arena_alternatives_ways chosen ps v))
