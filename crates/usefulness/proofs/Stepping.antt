-- One step of a search: what is looked at is left out, or what is left of it stands in its place.
use Rattle.std.proofs.Common.{◌≡◌, ◌⊎◌, inl, inr, ◌<◌, ℕ, Bool, true, false, ◌||◌, List, [], ◌∷◌, ◌++◌, cond, get_or, ◌≢◌, nat_eq, Some, None, slice_get, refl, ap, sym, subst, ◌∙◌, arith}
use Rattle.std.proofs.lemmas.Bool.Decides.{eqb_tells}
use Rattle.std.proofs.lemmas.List.{append-nil}
use Rattle.std.proofs.lemmas.List.Elements.{All-head, All-tail}
use Rattle.std.specs.List.{All, Contains, list_any}
use Rattle.match_model.specs.Values.{MValue}
use Rattle.match_model.specs.ArenaPatterns.{MDePat, uid_of}
use Rattle.match_model.specs.Contexts.{Context, Open}
use Rattle.match_model.specs.Rows.{is_wild}
use Rattle.match_model.proofs.Basics.{untrue, either, or_left, or_right, nat_itself}
use Rattle.pattern_matrix.specs.Sparse.{AreHeadsBelow, head_at}
use Rattle.pat_context.specs.Parts.{AreValues}
use Rattle.pattern_matrix.specs.Counting.{Question, through_alternative}
use Rattle.pattern_matrix.specs.Searching.{Submatrix, weight_of, IsFit, Comes, IsSearch, IsLookedAt}
use Rattle.pattern_matrix.proofs.SearchSteps.{looks}
use Rattle.pattern_matrix.proofs.HandingOn.{here, there, in_cons}
use Rattle.usefulness.specs.declared.chosen.ChosenIn.{ChosenIn}
use Rattle.usefulness.specs.declared.frames.Frame.{Frame}
use Rattle.usefulness.specs.declared.marks.Marks.{Marks}
use Rattle.usefulness.specs.declared.told.ToldChosen.{ToldChosen}
use Rattle.usefulness.specs.Chosen.{unmarked_from}
use Rattle.usefulness.specs.Frames.{SparseAsked, asked_views, numbers, places, sub_view, IsHeadIn, IsRowIn, AreOpen, has_start}
use Rattle.usefulness.specs.Compact.{lists_at, some_lists, used_of, AreAllUsed, IsCompact}
use Rattle.usefulness.specs.Marking.{is_marked}
use Rattle.usefulness.specs.Scope.{Scope, patterns_of}
use Rattle.usefulness.specs.States.{plain_opens, plain_askeds, frame_view, IsGood}
use Rattle.usefulness.specs.Memo.{Memo, no_memo, chosen_of, told_beside, AreAllNoted, IsNotedIn}
use Rattle.usefulness.specs.Told.{IsTold, IsToldBeside, AreTold, AreLighter, IsStep}
use Rattle.usefulness.specs.Words.{AreNumbered, words}
use Rattle.usefulness.proofs.Choosing.{same_got}
use Rattle.usefulness.proofs.ChosenRows.{chosen_there, chosen_by}
use Rattle.usefulness.proofs.LikeRows.{CountsAt, HaveChosenToo, counts_at, counting_row}
use Rattle.usefulness.proofs.RowFacts.{heads_below, numbers_below}
use Rattle.usefulness.proofs.Replacing.{stands_in, repeats}
use Rattle.usefulness.proofs.SameSubs.{all_got, same_comes, same_weighs}
use Rattle.usefulness.proofs.ToldKeys.{got_there}
use Rattle.usefulness.proofs.Unused.{AreUsed, AreRowsUsed, comes_used, comes_unused, fit_used, weight_used}

-- ---- columns where some row lists a head

module _ {T : Type 0} where
  head_listed : (heads : List (ℕ × MDePat T)) (h : ℕ × MDePat T) → Contains heads h → lists_at heads h.0 ≡ true
  head_listed [] h (k, l, e) = absurd (omega (arith, l))
  head_listed (g ∷ heads) h i =
      in_cons g h heads (λ z. lists_at (g ∷ heads) z.0 ≡ true) (or_left (nat_eq g.0 g.0) (lists_at heads g.0) (nat_itself g.0)) (λ z j. or_right (nat_eq g.0 z.0) (lists_at heads z.0) (head_listed heads z j)) i

  row_listed : (xs : List (SparseAsked T)) (x : SparseAsked T) (c : ℕ) → Contains xs x → lists_at x.row.heads c ≡ true → some_lists xs c ≡ true
  row_listed [] x c (k, l, e) h = absurd (omega (arith, l))
  row_listed (y ∷ xs) x c i h =
      in_cons y x xs (λ z. lists_at z.row.heads c ≡ true → some_lists (y ∷ xs) c ≡ true) (λ h. or_left (lists_at y.row.heads c) (some_lists xs c) h)
      (λ z j h. or_right (lists_at y.row.heads c) (some_lists xs c) (row_listed xs z c j h)) i h

-- what holds of each element holds of all
pub every : {A : Type 0} (P : A → Type 0) (xs : List A) → ((x : A) → Contains xs x → P x) → All P xs
every P xs f = λ k d l. f (get_or xs k d) (k, l, same_got xs k (get_or xs k d) d l)

module _ {T : Type 0} (scope : Scope T) where
  rows_used : (xs : List (SparseAsked T)) → AreRowsUsed (some_lists xs) xs
  rows_used xs = every (λ x. AreUsed (some_lists xs) x.row.heads) xs (λ x i.
      every (λ h. some_lists xs h.0 ≡ true) x.row.heads (λ h j. row_listed xs x h.0 i (head_listed x.row.heads h j)))

  in_used : (f : ℕ → Bool) (shown : List (ℕ × Open T)) (c : ℕ) → Contains (numbers shown) c → f c ≡ true → Contains (numbers (used_of f shown)) c
  in_used f [] c i e = absurd (let (k, l, g) = i in omega (arith, l))
  in_used f (o ∷ shown) c i e = in_cons o.0 c (numbers shown) (λ z. f z ≡ true → Contains (numbers (cond (f o.0) (o ∷ used_of f shown) (used_of f shown))) z)
      (λ k. subst (λ b. Contains (numbers (cond b (o ∷ used_of f shown) (used_of f shown))) o.0) (sym k) (here o.0 (numbers (used_of f shown))))
      (λ z j k. go (f o.0) z (in_used f shown z j k)) i e
    where
      go : (b : Bool) (z : ℕ) → Contains (numbers (used_of f shown)) z → Contains (numbers (cond b (o ∷ used_of f shown) (used_of f shown))) z
      go true z j = there o.0 z (numbers (used_of f shown)) j
      go false z j = j

  -- what is used was open, and passes the test
  of_used : (f : ℕ → Bool) (shown : List (ℕ × Open T)) (c : ℕ) → Contains (numbers (used_of f shown)) c → Contains (numbers shown) c × (f c ≡ true)
  of_used f [] c i = absurd (let (k, l, g) = i in omega (arith, l))
  of_used f (o ∷ shown) c i = go (f o.0) refl i (of_used f shown c)
    where
      go : (b : Bool) → f o.0 ≡ b → Contains (numbers (cond b (o ∷ used_of f shown) (used_of f shown))) c →
          (Contains (numbers (used_of f shown)) c → Contains (numbers shown) c × (f c ≡ true)) → Contains (o.0 ∷ numbers shown) c × (f c ≡ true)
      go true e i h = in_cons o.0 c (numbers (used_of f shown)) (λ z. (Contains (numbers (used_of f shown)) z → Contains (numbers shown) z × (f z ≡ true)) → Contains (o.0 ∷ numbers shown) z × (f z ≡ true))
          (λ h. (here o.0 (numbers shown), e)) (λ z j h. let (k, m) = h j in (there o.0 z (numbers shown) k, m)) i h
      go false e i h = let (k, m) = h i in (there o.0 c (numbers shown) k, m)

  open_used : (f : ℕ → Bool) (next : ℕ) (shown : List (ℕ × Open T)) → AreOpen next (numbers shown) → AreOpen next (numbers (used_of f shown))
  open_used f next [] o = o
  open_used f next (p ∷ shown) o = go (f p.0) (open_used f next shown o.2)
    where
      go : (b : Bool) → AreOpen next (numbers (used_of f shown)) → AreOpen next (numbers (cond b (p ∷ used_of f shown) (used_of f shown)))
      go true h = (o.0, every (λ c. (c < next) × (c ≢ p.0)) (numbers (used_of f shown)) (λ c i. all_got (λ c. (c < next) × (c ≢ p.0)) (numbers shown) c o.1 (of_used f shown c i).0), h)
      go false h = h

  rows_in_used : (shown : List (ℕ × Open T)) (xs : List (SparseAsked T)) → All (IsRowIn scope (numbers shown)) xs → All (IsRowIn scope (numbers (used_of (some_lists xs) shown))) xs
  rows_in_used shown xs a = every (IsRowIn scope (numbers (used_of (some_lists xs) shown))) xs (λ x i.
      let r = all_got (IsRowIn scope (numbers shown)) xs x a i in
      record {
        arm = r.arm;
        heads = every (IsHeadIn scope (numbers (used_of (some_lists xs) shown))) x.row.heads (λ h j.
            let k = all_got (IsHeadIn scope (numbers shown)) x.row.heads h r.heads j in
            record {
              column = in_used (some_lists xs) shown h.0 k.column (row_listed xs x h.0 i (head_listed x.row.heads h j));
              sharp = k.sharp;
              known = k.known;
            });
      })

  -- where a head is listed some head stands
  head_there : (columns : List ℕ) (heads : List (ℕ × MDePat T)) (c : ℕ) → All (IsHeadIn scope columns) heads → lists_at heads c ≡ true → (p : MDePat T) × (head_at heads c ≡ Some p)
  head_there columns [] c a e = untrue e
  head_there columns (h ∷ heads) c a e = elim (eqb_tells h.0 c) [
    | inl same ↦
        let k = All-head (IsHeadIn scope columns) h heads a in
        (h.1, ap (λ b. cond b (cond (is_wild (Some h.1)) None (Some h.1)) (head_at heads c)) same.0 ∙ ap (λ b. cond b None (Some h.1)) k.sharp)
    | inr other ↦
        let (p, f) = head_there columns heads c (All-tail (IsHeadIn scope columns) h heads a) (sym (ap (λ b. b || lists_at heads c) other.0) ∙ e) in
        (p, ap (λ b. cond b (cond (is_wild (Some h.1)) None (Some h.1)) (head_at heads c)) other.0 ∙ f)
  ]

  some_row : (xs : List (SparseAsked T)) (c : ℕ) → some_lists xs c ≡ true → (x : SparseAsked T) × Contains xs x × (lists_at x.row.heads c ≡ true)
  some_row [] c e = untrue e
  some_row (x ∷ xs) c e = elim (either (lists_at x.row.heads c) (some_lists xs c) e) [
    | inl h ↦ (x, here x xs, h)
    | inr h ↦ let (y, i, k) = some_row xs c h in (y, there x y xs i, k)
  ]

  all_used : (shown : List (ℕ × Open T)) (xs : List (SparseAsked T)) → All (IsRowIn scope (numbers shown)) xs → AreAllUsed (numbers (used_of (some_lists xs) shown)) xs
  all_used shown xs a = λ c i.
      let (x, j, l) = some_row xs c (of_used (some_lists xs) shown c i).1 in
      (x, j, head_there (numbers shown) x.row.heads c (all_got (IsRowIn scope (numbers shown)) xs x a j).heads l)

  -- the compact rows are good
  pub compact_good : (f g : Frame T) → IsCompact f g → IsGood scope f → IsGood scope g
  compact_good f g c r = record {
    columns = subst (λ os. AreOpen g.next (numbers os)) (sym c.columns) (subst (λ n. AreOpen n (numbers (used_of (some_lists (plain_askeds f.rows.items)) (plain_opens f.columns.items)))) (sym c.next)
        (open_used (some_lists (plain_askeds f.rows.items)) f.next (plain_opens f.columns.items) r.columns));
    heads = subst (λ os. All (IsRowIn scope (numbers os)) (plain_askeds g.rows.items)) (sym c.columns)
        (subst (All (IsRowIn scope (numbers (used_of (some_lists (plain_askeds f.rows.items)) (plain_opens f.columns.items))))) (sym c.rows) (rows_in_used (plain_opens f.columns.items) (plain_askeds f.rows.items) r.heads));
    start = ap has_start c.rows ∙ r.start;
  }

  -- the rows list their heads below the next column
  pub good_below : (f : Frame T) → IsGood scope f → All (λ x. AreHeadsBelow f.next x.row.heads) (plain_askeds f.rows.items)
  good_below f r = every (λ x. AreHeadsBelow f.next x.row.heads) (plain_askeds f.rows.items) (λ x i.
      heads_below scope f.next (numbers (plain_opens f.columns.items)) x.row.heads (numbers_below f.next (numbers (plain_opens f.columns.items)) r.columns)
      (all_got (IsRowIn scope (numbers (plain_opens f.columns.items))) (plain_askeds f.rows.items) x r.heads i).heads)

  pub compact_used : (f g : Frame T) → IsCompact f g → IsGood scope f → AreAllUsed (numbers (plain_opens g.columns.items)) (plain_askeds g.rows.items)
  compact_used f g c r =
      subst (λ os. AreAllUsed (numbers os) (plain_askeds g.rows.items)) (sym c.columns)
      (subst (AreAllUsed (numbers (used_of (some_lists (plain_askeds f.rows.items)) (plain_opens f.columns.items)))) (sym c.rows) (all_used (plain_opens f.columns.items) (plain_askeds f.rows.items) r.heads))

  compact_view : (f g : Frame T) → IsCompact f g → frame_view g ≡ sub_view (used_of (some_lists (plain_askeds f.rows.items)) (plain_opens f.columns.items)) (plain_askeds f.rows.items)
  compact_view f g c = ap (λ os. sub_view os (plain_askeds g.rows.items)) c.columns ∙ ap (sub_view (used_of (some_lists (plain_askeds f.rows.items)) (plain_opens f.columns.items))) c.rows

  module _ (IsType : T → Type 0) (IsValue : T → Bool → MValue → Type 0) (cx : Context T) (f g : Frame T) (c : IsCompact f g) (fit : IsFit IsType IsValue cx (frame_view f)) where
    abbrev test : ℕ → Bool
    test = some_lists (plain_askeds f.rows.items)

    pub compact_fit : IsFit IsType IsValue cx (frame_view g)
    compact_fit = subst (IsFit IsType IsValue cx) (sym (compact_view f g c)) (fit_used test IsValue IsType cx (plain_opens f.columns.items) (plain_askeds f.rows.items) (rows_used (plain_askeds f.rows.items)) fit)

    pub compact_weighs : weight_of (frame_view g) ≡ weight_of (frame_view f)
    compact_weighs = ap weight_of (compact_view f g c) ∙ sym (weight_used test (plain_opens f.columns.items) (plain_askeds f.rows.items) (rows_used (plain_askeds f.rows.items)))

    -- values come to the same
    pub compact_on : (q : Question) → Comes IsValue q (frame_view f) → Comes IsValue q (frame_view g)
    compact_on q k = subst (Comes IsValue q) (sym (compact_view f g c)) (comes_used test IsValue (plain_opens f.columns.items) (plain_askeds f.rows.items) (rows_used (plain_askeds f.rows.items)) q k)

    pub compact_back : (q : Question) → Comes IsValue q (frame_view g) → Comes IsValue q (frame_view f)
    compact_back q k = comes_unused test IsValue (plain_opens f.columns.items) (plain_askeds f.rows.items) (rows_used (plain_askeds f.rows.items)) fit.some q (subst (Comes IsValue q) (compact_view f g c) k)

    pub compact_search : (first : Submatrix T) (now : Question → Bool) (todo seen : List (Submatrix T)) → IsSearch IsType IsValue cx first now (todo ++ frame_view f ∷ []) seen →
        IsSearch IsType IsValue cx first now (todo ++ frame_view g ∷ []) seen
    compact_search first now todo seen s =
        let w = compact_weighs in
        stands_in IsType IsValue cx first now now todo seen (frame_view f) s (λ q m. m) (λ q m. inl m) (frame_view g) compact_fit (omega (arith, w)) (λ q k. inr (compact_on q k)) compact_back

-- ---- what was looked at

-- an option's value
some_same : {A : Type 0} {x y : A} → Some x ≡ Some y → x ≡ y
some_same e = cc

module _ {T : Type 0} (IsType : T → Type 0) (IsValue : T → Bool → MValue → Type 0) (cx : Context T) (scope : Scope T) where
  -- what was told is still where one more was looked at
  abbrev told_later : (s : Submatrix T) (seen : List (Submatrix T)) (w : List ℕ) → IsTold IsType IsValue cx scope seen w → IsTold IsType IsValue cx scope (s ∷ seen) w
  told_later s seen w k = record { at = k.at; shown = k.shown; rows = k.rows; known = k.known; numbered = k.numbered; fit = k.fit; one = there s (sub_view k.shown k.rows) seen k.one; are = k.are }

  beside_later : (s : Submatrix T) (seen : List (Submatrix T)) (old now : List (List ℕ)) (c : ToldChosen) → ((k : ℕ) (v : List ℕ) → slice_get old k ≡ Some v → slice_get now k ≡ Some v) →
      IsToldBeside IsType IsValue cx scope seen old c → IsToldBeside IsType IsValue cx scope (s ∷ seen) now c
  beside_later s seen old now c stay k = record { key = k.key; listed = stay c.list k.key k.listed; told = told_later s seen k.key k.told; row = k.row; found = k.found; has = k.has }

  -- a submatrix of these words was looked at whose row has chosen the alternative
  chosen_told : (seen : List (Submatrix T)) (lists : List (List ℕ)) (w : List ℕ) (c : ToldChosen) → slice_get lists c.list ≡ Some w → IsToldBeside IsType IsValue cx scope seen lists c →
      (k : IsTold IsType IsValue cx scope seen w) × ((y : SparseAsked T) → slice_get k.rows c.row ≡ Some y → list_any (nat_eq c.uid) y.row.chosen ≡ true)
  chosen_told seen lists w c l b =
      subst (λ v. (k : IsTold IsType IsValue cx scope seen v) × ((y : SparseAsked T) → slice_get k.rows c.row ≡ Some y → list_any (nat_eq c.uid) y.row.chosen ≡ true)) (some_same (sym b.listed ∙ l))
      (b.told, λ y e. subst (λ z. list_any (nat_eq c.uid) z.row.chosen ≡ true) (some_same (sym b.found ∙ e)) b.has)

module _ {T : Type 0} (IsType : T → Type 0) (IsValue : T → Bool → MValue → Type 0) (cx : Context T) (scope : Scope T)
    (pinned : (p q : MDePat T) → Contains (patterns_of scope.written) p → Contains (patterns_of scope.written) q → uid_of p ≡ uid_of q → p ≡ q) (f g : Frame T) (c : IsCompact f g) (good : IsGood scope f)
    (fit : IsFit IsType IsValue cx (frame_view f)) (marks : Marks) (at : ℕ → ℕ) (numbered : AreNumbered at 0 (numbers (plain_opens g.columns.items))) (w : List ℕ)
    (are : w ≡ words at (plain_opens g.columns.items) (plain_askeds g.rows.items)) (memo : Memo) where
  abbrev rows : List (SparseAsked T)
  rows = plain_askeds g.rows.items

  abbrev columns : List ℕ
  columns = numbers (plain_opens g.columns.items)

  heads_known : (columns : List ℕ) (xs : List (SparseAsked T)) → All (IsRowIn scope columns) xs → All (λ x. All (λ h. Contains columns h.0 × Contains (patterns_of scope.written) h.1) x.row.heads) xs
  heads_known columns xs a = every (λ x. All (λ h. Contains columns h.0 × Contains (patterns_of scope.written) h.1) x.row.heads) xs (λ x i.
      every (λ h. Contains columns h.0 × Contains (patterns_of scope.written) h.1) x.row.heads (λ h j.
      let k = all_got (IsHeadIn scope columns) x.row.heads h (all_got (IsRowIn scope columns) xs x a i).heads j in
      (k.column, k.known)))

  -- it was seen, where another of its words was in which the row has chosen what is asked for
  other_comes : (seen : List (Submatrix T)) (k : IsTold IsType IsValue cx scope seen w) (q : Question) (vs : List MValue) (i : ℕ) → AreValues IsValue (places (plain_opens g.columns.items)) vs →
      CountsAt q (asked_views columns rows) vs i → HaveChosenToo q rows k.rows i → (t : Submatrix T) × Contains seen t × Comes IsValue q t × (weight_of (frame_view g) ≡ weight_of t)
  other_comes seen k q vs i a d h =
      let mine = heads_known columns rows (compact_good scope f g c good).heads in
      let theirs = heads_known (numbers k.shown) k.rows k.known in
      let used = compact_used scope f g c good in (
        sub_view k.shown k.rows,
        k.one,
        same_comes IsType IsValue cx (Contains (patterns_of scope.written)) pinned at k.at (plain_opens g.columns.items) k.shown rows k.rows (compact_fit scope IsType IsValue cx f g c fit) k.fit numbered k.numbered mine theirs used
            (sym are ∙ k.are) q vs i a d h,
        same_weighs IsType IsValue cx (Contains (patterns_of scope.written)) pinned at k.at (plain_opens g.columns.items) k.shown rows k.rows (compact_fit scope IsType IsValue cx f g c fit) k.fit numbered k.numbered mine theirs used
            (sym are ∙ k.are),
      )

  module _ (n : AreAllNoted memo w (unmarked_from (is_marked marks) 0 (plain_askeds g.rows.items))) (seen : List (Submatrix T)) (told : AreTold IsType IsValue cx scope seen memo) where
    listed : Contains memo.lists w
    listed = got_there memo.lists n.0 w n.1

    -- what comes to it is marked, or comes to one of its words that was seen
    seen_comes : (q : Question) → Comes IsValue q (frame_view g) → (is_marked marks q ≡ true) ⊎ ((t : Submatrix T) × Contains seen t × Comes IsValue q t × (weight_of (frame_view g) ≡ weight_of t))
    seen_comes q (vs, a, e) =
        let (i, d) = counts_at q (asked_views columns rows) vs e in
        let (x, s, v, arm) = counting_row q vs columns rows i d in
        go vs a i d x s v arm (is_marked marks q) refl q.whole refl (list_any (nat_eq q.id) x.row.chosen) refl
      where
        go : (vs : List MValue) → AreValues IsValue (places (plain_opens g.columns.items)) vs → (i : ℕ) → CountsAt q (asked_views columns rows) vs i → (x : SparseAsked T) → slice_get rows i ≡ Some x → x.wanted ≡ true → q.arm ≡ x.row.arm →
            (m : Bool) → is_marked marks q ≡ m → (u : Bool) → q.whole ≡ u → (h : Bool) → list_any (nat_eq q.id) x.row.chosen ≡ h →
            (is_marked marks q ≡ true) ⊎ ((t : Submatrix T) × Contains seen t × Comes IsValue q t × (weight_of (frame_view g) ≡ weight_of t))
        go vs a i d x s v arm true m u k h l = inl m
        go vs a i d x s v arm false m true k h l = inr (other_comes seen (told.lists w listed) q vs i a d (λ y z e f b. ap (λ b. b || list_any (nat_eq q.id) z.row.chosen) k))
        go vs a i d x s v arm false m false k false l = inr (other_comes seen (told.lists w listed) q vs i a d (λ y z e f b.
            untrue (sym (ap (λ b. b || list_any (nat_eq q.id) y.row.chosen) k ∙ ap (λ (r : SparseAsked T). list_any (nat_eq q.id) r.row.chosen) (some_same (sym e ∙ s)) ∙ l) ∙ b)))
        go vs a i d x s v arm false m false k true l =
            let one : ChosenIn = record { row = i; uid = q.id } in
            let left : is_marked marks (through_alternative x.row.arm q.id) ≡ false = subst (λ n. is_marked marks (through_alternative n q.id) ≡ false) arm (sym (asked_same k) ∙ m) in
            let noted = all_got (λ z. Contains memo.chosen (told_beside n.0 z)) (unmarked_from (is_marked marks) 0 rows) one n.2 (chosen_there (is_marked marks) q.id 0 i i rows x (omega arith) s v l left) in
            let (t, has) = chosen_told IsType IsValue cx scope seen memo.lists w (told_beside n.0 one) n.1 (told.chosen (told_beside n.0 one) noted) in
            inr (other_comes seen t q vs i a d (λ y z e f b. ap (λ b. b || list_any (nat_eq q.id) z.row.chosen) k ∙ has z f))
          where
            asked_same : q.whole ≡ false → is_marked marks q ≡ is_marked marks (through_alternative q.arm q.id)
            asked_same k = rw k refl

  -- it is left out
  pub step_out : AreAllNoted memo w (unmarked_from (is_marked marks) 0 (plain_askeds g.rows.items)) → IsStep IsType IsValue cx scope (is_marked marks) (is_marked marks) (frame_view f) [] memo memo
  step_out n = λ first todo seen search told. (
    seen,
    subst (λ zs. IsSearch IsType IsValue cx first (is_marked marks) zs seen) (sym (append-nil todo))
        (repeats IsType IsValue cx first (is_marked marks) todo seen (frame_view g) (compact_search scope IsType IsValue cx f g c fit first (is_marked marks) todo seen search) (seen_comes n seen told)),
    told,
  )

  -- its words tell it
  abbrev itself : (seen : List (Submatrix T)) (v : List ℕ) → v ≡ w → IsTold IsType IsValue cx scope (frame_view g ∷ seen) v
  itself seen v e = record {
    at = at;
    shown = plain_opens g.columns.items;
    rows = plain_askeds g.rows.items;
    known = (compact_good scope f g c good).heads;
    numbered = numbered;
    fit = compact_fit scope IsType IsValue cx f g c fit;
    one = here (frame_view g) seen;
    are = e ∙ are;
  }

  -- it is looked at, and noted
  pub step_in : (now : Question → Bool) (new : List (Submatrix T)) (after : Memo) → IsLookedAt IsType IsValue cx (is_marked marks) now (frame_view g) new →
      IsNotedIn w (unmarked_from (is_marked marks) 0 (plain_askeds g.rows.items)) memo after → IsStep IsType IsValue cx scope (is_marked marks) now (frame_view f) new memo after
  step_in now new after looked n = λ first todo seen search told. (
    frame_view g ∷ seen,
    looks IsType IsValue cx first (is_marked marks) now todo new seen (frame_view g) (compact_search scope IsType IsValue cx f g c fit first (is_marked marks) todo seen search) looked,
    record {
      lists = λ v i. elim (n.lists v i) [
        | inl j ↦ told_later IsType IsValue cx scope (frame_view g) seen v (told.lists v j)
        | inr e ↦ itself seen v e
      ];
      chosen = λ d i. elim (n.beside d i) [
        | inl j ↦ beside_later IsType IsValue cx scope (frame_view g) seen memo.lists after.lists d n.stay (told.chosen d j)
        | inr (j, l) ↦
            let (k, e, (x, s, h)) = chosen_by (is_marked marks) 0 rows (chosen_of d) j in
            let same : k ≡ d.row = omega (arith, e) in
            record {
              key = w;
              listed = l;
              told = itself seen w refl;
              row = x;
              found = subst (λ r. slice_get rows r ≡ Some x) same s;
              has = h;
            }
      ];
    },
  )

  -- the new ones are lighter
  pub step_lighter : (new : List (Submatrix T)) → AreLighter new (frame_view g) → AreLighter new (frame_view f)
  step_lighter new l = λ n i. subst (λ m. weight_of n < m) (compact_weighs scope IsType IsValue cx f g c fit) (l n i)

-- ---- rows that are not noted

module _ {T : Type 0} (IsType : T → Type 0) (IsValue : T → Bool → MValue → Type 0) (cx : Context T) (scope : Scope T) (old now : Question → Bool) (s : Submatrix T) where
  -- it is looked at, and not noted
  pub step_early : (new : List (Submatrix T)) (memo after : Memo) → after ≡ memo → IsLookedAt IsType IsValue cx old now s new → IsStep IsType IsValue cx scope old now s new memo after
  step_early new memo after e l = λ first todo seen search told. (
    s ∷ seen,
    looks IsType IsValue cx first old now todo new seen s search l,
    subst (AreTold IsType IsValue cx scope (s ∷ seen)) (sym e) (record {
      lists = λ v i. told_later IsType IsValue cx scope s seen v (told.lists v i);
      chosen = λ d i. beside_later IsType IsValue cx scope s seen memo.lists memo.lists d (λ k v h. h) (told.chosen d i);
    }),
  )

-- nothing is told at first
pub none_told : {T : Type 0} (IsType : T → Type 0) (IsValue : T → Bool → MValue → Type 0) (cx : Context T) (scope : Scope T) (memo : Memo) → memo ≡ no_memo → AreTold IsType IsValue cx scope [] memo
none_told IsType IsValue cx scope memo e = subst (AreTold IsType IsValue cx scope []) (sym e) (record { lists = λ w (k, l, f). absurd (omega (arith, l)); chosen = λ c (k, l, f). absurd (omega (arith, l)) })

-- there are no new ones
pub none_lighter : {T : Type 0} (s : Submatrix T) → AreLighter [] s
none_lighter s = λ n (k, l, e). absurd (omega (arith, l))
