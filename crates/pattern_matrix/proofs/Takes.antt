-- What rows take, where or-patterns are expanded.
use Rattle.std.proofs.Common.{◌≡◌, ℕ, zero, suc, ◌-◌, Bool, true, false, ◌&&◌, ◌||◌, List, [], ◌∷◌, ◌++◌, map, take, drop, length, Some, None, refl, sym, ap, ◌∙◌}
use Rattle.std.specs.List.{list_any, flat_map}
use Rattle.std.proofs.lemmas.List.{length-map, map-append}
use Rattle.match_model.specs.Values.{MValue, parts_of}
use Rattle.match_model.specs.Ways.{Way, combine, under}
use Rattle.match_model.specs.Places.{some_if}
use Rattle.match_model.specs.Matching.{span_way}
use Rattle.match_model.specs.Constructors.{FixedShape, LongerShape, MCtor, SingleCtor, PointCtor, LaterCtor, OtherTextCtor, VariantCtor, FlagCtor, NumbersCtor, TextCtor, RowCtor, WildCtor, OrCtor, builds, parts_met}
use Rattle.match_model.specs.ArenaPatterns.{MBound, MDePat, de_pat, MDePats, no_de_pats, more_de_pats, de_pats_list, uid_of}
use Rattle.match_model.specs.ArenaWays.{NumberedPart, numbered_from, parts_built, ways_where, with_bounds, with_spans_of, ways_by_ctor, chosen_of, arena_ways, subs_ways, arena_alternatives_ways}
use Rattle.match_model.specs.Rows.{Head, Choice, choices_of, all_choices_of, choice_among, with_binds, choices_by, expand_row}
use Rattle.pattern_matrix.specs.Covering.{is_some_there, head_takes, row_takes, some_takes}

pub some-map : {A B : Type 0} (f : A → B) (xs : List A) → is_some_there (map f xs) ≡ is_some_there xs
some-map f [] = refl
some-map f (x ∷ xs) = refl

some-append : {A : Type 0} (xs ys : List A) → is_some_there (xs ++ ys) ≡ (is_some_there xs || is_some_there ys)
some-append [] ys = refl
some-append (x ∷ xs) ys = refl

some-combine : (ws us : List Way) → is_some_there (combine ws us) ≡ (is_some_there ws && is_some_there us)
some-combine [] us = refl
some-combine (w ∷ ws) [] = some-combine ws [] ∙ none (is_some_there ws)
  where
    none : (b : Bool) → (b && false) ≡ false
    none true = refl
    none false = refl
some-combine (w ∷ ws) (u ∷ us) = refl

-- the parts of a pattern

pub subs_take : {T : Type 0} (subs : MDePats T) (parts : List NumberedPart) →
    is_some_there (subs_ways subs parts) ≡ row_takes (map Some (de_pats_list subs)) (map (λ n. n.part) parts)
subs_take no_de_pats [] = refl
subs_take no_de_pats (n ∷ parts) = refl
subs_take (more_de_pats p ps) [] = refl
subs_take (more_de_pats p ps) (n ∷ parts) =
    some-combine (map (under n.number) (arena_ways p n.part)) (subs_ways ps parts)
    ∙ ap (λ b. b && is_some_there (subs_ways ps parts)) (some-map (under n.number) (arena_ways p n.part))
    ∙ ap (λ b. head_takes (Some p) n.part && b) (subs_take ps parts)

numbered_parts : (i : ℕ) (vs : List MValue) → map (λ n. n.part) (numbered_from i vs) ≡ vs
numbered_parts i [] = refl
numbered_parts i (v ∷ vs) = ap (λ xs. v ∷ xs) (numbered_parts (suc i) vs)

map-take : {A B : Type 0} (f : A → B) (n : ℕ) (xs : List A) → map f (take n xs) ≡ take n (map f xs)
map-take f zero xs = refl
map-take f (suc n) [] = refl
map-take f (suc n) (x ∷ xs) = ap (λ ys. f x ∷ ys) (map-take f n xs)

map-drop : {A B : Type 0} (f : A → B) (n : ℕ) (xs : List A) → map f (drop n xs) ≡ drop n (map f xs)
map-drop f zero xs = refl
map-drop f (suc n) [] = refl
map-drop f (suc n) (x ∷ xs) = map-drop f n xs

pub met_parts : (c : MCtor) (i : ℕ) (vs : List MValue) →
    map (λ n. n.part) (parts_met c (numbered_from i vs)) ≡ parts_met c vs
met_parts (RowCtor (LongerShape f b)) i vs =
    let ns = numbered_from i vs in
    let part : NumberedPart → MValue = λ n. n.part in
    let e : map part ns ≡ vs = numbered_parts i vs in
    let l : length ns ≡ length vs = sym (length-map ns part) ∙ ap length e in
    map-append part (take f ns) (drop (length ns - b) ns)
    ∙ ap (λ xs. xs ++ map part (drop (length ns - b) ns)) (map-take part f ns ∙ ap (take f) e)
    ∙ ap (λ xs. take f vs ++ xs) (map-drop part (length ns - b) ns ∙ ap (drop (length ns - b)) e ∙ ap (λ n. drop (n - b) vs) l)
met_parts (RowCtor (FixedShape n)) i vs = numbered_parts i vs
met_parts SingleCtor i vs = numbered_parts i vs
met_parts PointCtor i vs = numbered_parts i vs
met_parts LaterCtor i vs = numbered_parts i vs
met_parts OtherTextCtor i vs = numbered_parts i vs
met_parts WildCtor i vs = numbered_parts i vs
met_parts OrCtor i vs = numbered_parts i vs
met_parts (VariantCtor k) i vs = numbered_parts i vs
met_parts (FlagCtor b) i vs = numbered_parts i vs
met_parts (NumbersCtor r) i vs = numbered_parts i vs
met_parts (TextCtor t) i vs = numbered_parts i vs

-- what a pattern of a constructor takes: a value that the constructor builds, whose parts its patterns take
abbrev pub ctor_takes : {T : Type 0} → MCtor → MDePats T → MValue → Bool
ctor_takes c subs v = builds [] c v && row_takes (map Some (de_pats_list subs)) (parts_met c (parts_of v))

built_takes : {T : Type 0} (c : MCtor) (subs : MDePats T) (v : MValue) →
    is_some_there (ways_where (parts_built c v) (λ parts. subs_ways subs parts)) ≡ ctor_takes c subs v
built_takes c subs v = go (builds [] c v)
  where
    go : (b : Bool) →
        is_some_there (ways_where (some_if b (parts_met c (numbered_from 0 (parts_of v)))) (λ parts. subs_ways subs parts)) ≡ (b && row_takes (map Some (de_pats_list subs)) (parts_met c (parts_of v)))
    go true =
        subs_take subs (parts_met c (numbered_from 0 (parts_of v)))
        ∙ ap (row_takes (map Some (de_pats_list subs))) (met_parts c 0 (parts_of v))
    go false = refl

abbrev pub taken_by : {T : Type 0} → MCtor → MDePats T → MValue → (alternatives : Bool) → Bool
taken_by WildCtor subs v a = true
taken_by OrCtor subs v a = a
taken_by c subs v a = ctor_takes c subs v

-- what a pattern takes
pub pat_takes : {T : Type 0} (c : MCtor) (t : T) (uid at : ℕ) (subs : MDePats T) (binds : List MBound) (v : MValue) →
    head_takes (Some (de_pat c t uid at subs binds)) v ≡ taken_by c subs v (is_some_there (arena_alternatives_ways (chosen_of subs) subs v))
pat_takes c t uid at subs binds v =
    some-map (with_bounds binds v) (ways_by_ctor c at (λ u. arena_alternatives_ways (chosen_of subs) subs u) (λ parts. subs_ways subs parts) v)
    ∙ go c
  where
    go : (c : MCtor) →
        is_some_there (ways_by_ctor c at (λ u. arena_alternatives_ways (chosen_of subs) subs u) (λ parts. subs_ways subs parts) v) ≡ taken_by c subs v (is_some_there (arena_alternatives_ways (chosen_of subs) subs v))
    go WildCtor = refl
    go OrCtor = refl
    go (NumbersCtor r) =
        some-map (with_spans_of (span_way at r)) (ways_where (parts_built (NumbersCtor r) v) (λ parts. subs_ways subs parts))
        ∙ built_takes (NumbersCtor r) subs v
    go SingleCtor = built_takes SingleCtor subs v
    go PointCtor = built_takes PointCtor subs v
    go LaterCtor = built_takes LaterCtor subs v
    go OtherTextCtor = built_takes OtherTextCtor subs v
    go (VariantCtor k) = built_takes (VariantCtor k) subs v
    go (FlagCtor b) = built_takes (FlagCtor b) subs v
    go (TextCtor x) = built_takes (TextCtor x) subs v
    go (RowCtor s) = built_takes (RowCtor s) subs v

-- or-patterns

any-map : {A B : Type 0} (f : B → Bool) (g : A → B) (xs : List A) → list_any f (map g xs) ≡ list_any (λ x. f (g x)) xs
any-map f g [] = refl
any-map f g (x ∷ xs) = ap (λ b. f (g x) || b) (any-map f g xs)

or-assoc : (a b c : Bool) → ((a || b) || c) ≡ (a || (b || c))
or-assoc true b c = refl
or-assoc false b c = refl

pub any-append : {A : Type 0} (f : A → Bool) (xs ys : List A) → list_any f (xs ++ ys) ≡ (list_any f xs || list_any f ys)
any-append f [] ys = refl
any-append f (x ∷ xs) ys =
    ap (λ b. f x || b) (any-append f xs ys) ∙ sym (or-assoc (f x) (list_any f xs) (list_any f ys))

abbrev some_choice : {T : Type 0} → MValue → List (Choice T) → Bool
some_choice v cs = list_any (λ c. head_takes (Some c.pat) v) cs

choice-map : {T : Type 0} (v : MValue) (f : Choice T → Choice T) → ((c : Choice T) → (f c).pat ≡ c.pat) →
    (cs : List (Choice T)) → some_choice v (map f cs) ≡ some_choice v cs
choice-map v f k [] = refl
choice-map v f k (c ∷ cs) =
    ap (λ p. head_takes (Some p) v || some_choice v (map f cs)) (k c)
    ∙ ap (λ b. head_takes (Some c.pat) v || b) (choice-map v f k cs)

keeps_pat : {T : Type 0} (subs : MDePats T) (uid : ℕ) (c : Choice T) → (choice_among subs uid c).pat ≡ c.pat
keeps_pat no_de_pats uid c = refl
keeps_pat (more_de_pats p no_de_pats) uid c = refl
keeps_pat (more_de_pats p (more_de_pats q qs)) uid c = refl

mutual
  pub choices_take : {T : Type 0} (p : MDePat T) (v : MValue) → some_choice v (choices_of p) ≡ head_takes (Some p) v
  choices_take (de_pat c t uid at subs binds) v =
      go c (choice-map v (with_binds binds) (λ d. refl) (all_choices_of (choice_among subs) subs) ∙ alternatives_take (choice_among subs) (chosen_of subs) (λ x d. keeps_pat subs x d) subs v)
    where
      or_false : (b : Bool) → (b || false) ≡ b
      or_false true = refl
      or_false false = refl

      go : (c : MCtor) →
          some_choice v (map (with_binds binds) (all_choices_of (choice_among subs) subs)) ≡ is_some_there (arena_alternatives_ways (chosen_of subs) subs v) →
          some_choice v (choices_by c (map (with_binds binds) (all_choices_of (choice_among subs) subs)) (record { pat = de_pat c t uid at subs binds; chosen = []; binds = [] } ∷ []))
          ≡ head_takes (Some (de_pat c t uid at subs binds)) v
      go OrCtor e = e ∙ sym (pat_takes OrCtor t uid at subs binds v)
      go WildCtor e = or_false (head_takes (Some (de_pat WildCtor t uid at subs binds)) v)
      go SingleCtor e = or_false (head_takes (Some (de_pat SingleCtor t uid at subs binds)) v)
      go PointCtor e = or_false (head_takes (Some (de_pat PointCtor t uid at subs binds)) v)
      go LaterCtor e = or_false (head_takes (Some (de_pat LaterCtor t uid at subs binds)) v)
      go OtherTextCtor e = or_false (head_takes (Some (de_pat OtherTextCtor t uid at subs binds)) v)
      go (VariantCtor k) e = or_false (head_takes (Some (de_pat (VariantCtor k) t uid at subs binds)) v)
      go (FlagCtor b) e = or_false (head_takes (Some (de_pat (FlagCtor b) t uid at subs binds)) v)
      go (NumbersCtor r) e = or_false (head_takes (Some (de_pat (NumbersCtor r) t uid at subs binds)) v)
      go (TextCtor x) e = or_false (head_takes (Some (de_pat (TextCtor x) t uid at subs binds)) v)
      go (RowCtor s) e = or_false (head_takes (Some (de_pat (RowCtor s) t uid at subs binds)) v)

  alternatives_take : {T : Type 0} (choose : ℕ → Choice T → Choice T) (chosen : ℕ → Way → Way) →
      ((u : ℕ) (d : Choice T) → (choose u d).pat ≡ d.pat) → (ps : MDePats T) (v : MValue) →
      some_choice v (all_choices_of choose ps) ≡ is_some_there (arena_alternatives_ways chosen ps v)
  alternatives_take choose chosen k no_de_pats v = refl
  alternatives_take choose chosen k (more_de_pats p ps) v =
      any-append (λ c. head_takes (Some c.pat) v) (map (choose (uid_of p)) (choices_of p)) (all_choices_of choose ps)
      ∙ ap (λ b. b || some_choice v (all_choices_of choose ps)) (choice-map v (choose (uid_of p)) (λ d. k (uid_of p) d) (choices_of p) ∙ choices_take p v)
      ∙ ap (λ b. head_takes (Some p) v || b) (alternatives_take choose chosen k ps v)
      ∙ ap (λ b. b || is_some_there (arena_alternatives_ways chosen ps v)) (sym (some-map (chosen (uid_of p)) (arena_ways p v)))
      ∙ sym (some-append (map (chosen (uid_of p)) (arena_ways p v)) (arena_alternatives_ways chosen ps v))

-- rows

spread_take : {T : Type 0} (rest : List (Head T)) (v : MValue) (vs : List MValue) (cs : List (Choice T)) →
    some_takes (map (λ c. Some c.pat ∷ rest) cs) (v ∷ vs) ≡ (some_choice v cs && row_takes rest vs)
spread_take rest v vs [] = refl
spread_take rest v vs (c ∷ cs) =
    ap (λ b. (head_takes (Some c.pat) v && row_takes rest vs) || b) (spread_take rest v vs cs)
    ∙ shuffle (head_takes (Some c.pat) v) (some_choice v cs) (row_takes rest vs)
  where
    shuffle : (a b c : Bool) → ((a && c) || (b && c)) ≡ ((a || b) && c)
    shuffle true true true = refl
    shuffle true true false = refl
    shuffle true false true = refl
    shuffle true false false = refl
    shuffle false b c = refl

expand_one : {T : Type 0} (row : List (Head T)) (vs : List MValue) → some_takes (expand_row row) vs ≡ row_takes row vs
expand_one [] [] = refl
expand_one [] (v ∷ vs) = refl
expand_one (None ∷ rest) [] = refl
expand_one (None ∷ rest) (v ∷ vs) = or_false (row_takes rest vs)
  where
    or_false : (b : Bool) → (b || false) ≡ b
    or_false true = refl
    or_false false = refl
expand_one {T} (Some p ∷ rest) [] = none (choices_of p)
  where
    none : (cs : List (Choice T)) → some_takes (map (λ c. Some c.pat ∷ rest) cs) [] ≡ false
    none [] = refl
    none (c ∷ cs) = none cs
expand_one (Some p ∷ rest) (v ∷ vs) =
    spread_take rest v vs (choices_of p) ∙ ap (λ b. b && row_takes rest vs) (choices_take p v)

-- expanding or-patterns keeps what rows take
pub expand_takes : {T : Type 0} (rows : List (List (Head T))) (vs : List MValue) →
    some_takes (flat_map expand_row rows) vs ≡ some_takes rows vs
expand_takes [] vs = refl
expand_takes (r ∷ rows) vs =
    any-append (λ x. row_takes x vs) (expand_row r) (flat_map expand_row rows)
    ∙ ap (λ b. b || some_takes (flat_map expand_row rows) vs) (expand_one r vs)
    ∙ ap (λ b. row_takes r vs || b) (expand_takes rows vs)
