-- The rows of a piece are among those whose spans have its number.
use Rattle.std.proofs.Common.{◌≡◌, inl, inr, ◌<◌, ◌≤◌, ◌+◌, ◌-◌, ℕ, zero, suc, Bool, true, false, ◌&&◌, nat_le, nat_lt, cond, List, [], ◌∷◌, ◌++◌, map, length, take, drop, get_or, append-nil, append_assoc, length-append, Option, Some, None, slice_get, slice_index_or, refl, sym, ap, ◌∙◌, subst, arith}
use denote.Bor.{Bor}
use Rattle.std.specs.List.{All, cons_option}
use Rattle.std.specs.Option.{option_to_list}
use Rattle.std.proofs.lemmas.Bool.Decides.{nat_tests}
use Rattle.std.proofs.lemmas.Grind.{flat_map-append}
use Rattle.std.proofs.lemmas.Option.{get_or_from_slice_get, slice_get_within}
use Rattle.std.proofs.lemmas.List.{length-map, take_more}
use Rattle.std.proofs.lemmas.List.Elements.{All-cons, All-filter, All-head, All-nil, All-weaker}
use Rattle.match_model.specs.ArenaPatterns.{de_pat}
use Rattle.match_model.specs.Constructors.{MCtor, WildCtor}
use Rattle.match_model.specs.Lowering.{ctors_at}
use Rattle.match_model.specs.Matrices.{MRow}
use Rattle.match_model.specs.Places.{MStep}
use Rattle.match_model.specs.Rows.{Head, first_ctor}
use Rattle.match_model.specs.Steps.{Replacement, specialise_head, replacements_at, row_replaced, rows_at, with_head, with_others}
use Rattle.match_model.proofs.Basics.{untrue}
use Rattle.constructor_sets.specs.declared.piece.Span.{Span}
use Rattle.pattern_matrix.specs.Halving.{AreLeafSpans, span_has, having, leaves_with, leaf_ctors}
use Rattle.pattern_matrix.specs.Parts.{plain_spans, IsFull, pieces_left}
use Rattle.pattern_matrix.specs.Views.{plain_pattern}
use Rattle.pattern_matrix.specs.Sparse.{SparseLeaf, bare_head, head_has, columns_from}
use Rattle.pattern_matrix.specs.declared.halving.Part.{Part}
use Rattle.pattern_matrix.proofs.Halves.{whole_part}
use Rattle.pattern_arena.specs.declared.pattern.DePat.{DePat}
use Rattle.keyed_matrix.specs.Steps.{AreLonger}
use Rattle.keyed_matrix.specs.Views.{plain_head, plain_row, plain_rows}
use Rattle.keyed_matrix.specs.declared.rows.KeyedRow.{KeyedRow}
use Rattle.decision_tree.specs.Cutting.{head_there, takes_by, IsCutPart, AreLed}
use Rattle.decision_tree.specs.Idle.{is_idle, takes_idly, is_idle_alone, IsIdleFirst}
use Rattle.decision_tree.specs.Fronts.{IsFront}
use Rattle.decision_tree.specs.Cuts.{leaf_of, column_leaf, column_leaves, mirrored, listed_at, AreCut}
use Rattle.decision_tree.proofs.Enough.{full-part, kept-first, taken-row}
use Rattle.decision_tree.proofs.Reading.{read-map}

-- ---- a row without the piece

lacks-head : {T : Type 0} (p : MCtor) (n : ℕ) (h : Head T) → head_has p h ≡ false → specialise_head p n h ≡ []
lacks-head p n None e = cc
lacks-head p n (Some (de_pat c t uid at subs binds)) e = rw e refl

lacks-heads : {T : Type 0} (p : MCtor) (n i : ℕ) (hs : List (Head T)) → head_has p (head_there i hs) ≡ false →
    replacements_at (specialise_head p n) i hs ≡ []
lacks-heads p n i [] e = refl
lacks-heads p n zero (h ∷ hs) e = ap (map (with_others hs)) (lacks-head p n h e)
lacks-heads p n (suc i) (h ∷ hs) e = ap (map (with_head h)) (lacks-heads p n i hs e)

-- it becomes nothing
lacks-row : {T : Type 0} (p : MCtor) (n : ℕ) (place : List MStep) (i : ℕ) (r : MRow T) (rows : List (MRow T)) →
    head_has p (head_there i r.heads) ≡ false →
    rows_at (specialise_head p n) place i (r ∷ rows) ≡ rows_at (specialise_head p n) place i rows
lacks-row p n place i r rows e =
    ap (λ ys. map (row_replaced place r) ys ++ rows_at (specialise_head p n) place i rows) (lacks-heads p n i r.heads e)

-- ---- spans from the last piece to the first

mirror-has : (a b count k j : ℕ) → a ≤ b → b ≤ count → k + j + 1 ≡ count →
    (nat_le (count - b) j && nat_lt j (count - a)) ≡ (nat_le a k && nat_lt k b)
mirror-has a b count k j f w e = grind (arith, nat_tests)

-- ---- the rows whose spans have the number

module _ {T : Type 0} (p : MCtor) (n : ℕ) (place : List MStep) (i : ℕ) where
  abbrev Made : List (MRow T) → List (MRow T)
  Made rows = rows_at (specialise_head p n) place i rows

  abbrev Listed : (all : List (MRow T)) → List ℕ → List (MRow T)
  Listed all numbers = listed_at (specialise_head p n) place i all numbers

  one-made : (r : MRow T) (rows : List (MRow T)) → Made (r ∷ []) ++ Made rows ≡ Made (r ∷ rows)
  one-made r rows = append_assoc (map (row_replaced place r) (replacements_at (specialise_head p n) i r.heads)) [] (Made rows)

  one-more : (all : List (MRow T)) (k : ℕ) (r : MRow T) (rows : List (MRow T)) (numbers : List ℕ) (b : Bool) →
      slice_get all k ≡ Some r → (b ≡ false → head_has p (head_there i r.heads) ≡ false) → Listed all numbers ≡ Made rows →
      Listed all (cond b (k ∷ numbers) numbers) ≡ Made (r ∷ rows)
  one-more all k r rows numbers true there none ih =
      ap (λ o. Made (option_to_list o) ++ Listed all numbers) there ∙ ap (λ xs. Made (r ∷ []) ++ xs) ih ∙ one-made r rows
  one-more all k r rows numbers false there none ih = ih ∙ sym (lacks-row p n place i r rows (none refl))

  -- where a span without the number is that of a row without the piece
  abbrev AreMissed : (j : ℕ) → List (MRow T) → List (ℕ × ℕ) → Type 0
  AreMissed j [] [] = Unit {0}
  AreMissed j (r ∷ rows) (s ∷ spans) =
      (span_has j (Some s) ≡ false → head_has p (head_there i r.heads) ≡ false) × AreMissed j rows spans
  AreMissed j _ _ = ⊥

  listed-from : (j : ℕ) (all : List (MRow T)) (whole : List (ℕ × ℕ)) (first : ℕ) (rows : List (MRow T))
      (spans : List (ℕ × ℕ)) → ((l k : ℕ) → first + l ≡ k → slice_get all k ≡ slice_get rows l) →
      ((l k : ℕ) → first + l ≡ k → slice_get whole k ≡ slice_get spans l) → AreMissed j rows spans →
      Listed all (having whole j (columns_from first (length spans))) ≡ Made rows
  listed-from j all whole first [] [] get get_span are = refl
  listed-from j all whole first (r ∷ rows) (s ∷ spans) get get_span are =
      let numbers = having whole j (columns_from (suc first) (length spans)) in
      ap (λ o. Listed all (cond (span_has j o) (first ∷ numbers) numbers)) (get_span zero first (omega arith))
      ∙ one-more all first r rows numbers (span_has j (Some s)) (get zero first (omega arith)) are.0
      (listed-from j all whole (suc first) rows spans (λ l k e. get (suc l) k (omega (arith, e)))
      (λ l k e. get_span (suc l) k (omega (arith, e))) are.1)
  listed-from j all whole first [] (s ∷ spans) get get_span are = absurd are
  listed-from j all whole first (r ∷ rows) [] get get_span are = absurd are

  listed-all : (j : ℕ) (rows : List (MRow T)) (spans : List (ℕ × ℕ)) → AreMissed j rows spans →
      Listed rows (leaves_with spans j) ≡ Made rows
  listed-all j rows spans are =
      listed-from j rows spans 0 rows spans
      (λ l k e. let same : k ≡ l = omega (arith, e) in ap (slice_get rows) same)
      (λ l k e. let same : k ≡ l = omega (arith, e) in ap (slice_get spans) same) are

  -- the spans of leaves, mirrored, are such spans
  missed : (pieces : List MCtor) (k j : ℕ) → k + j + 1 ≡ length pieces → ((d : MCtor) → slice_index_or pieces k d ≡ p) →
      (rows : List (MRow T)) (forward : List (ℕ × ℕ)) → AreLeafSpans pieces (column_leaves i rows) forward →
      AreMissed j rows (map (mirrored (length pieces)) forward)
  missed pieces k j e is [] [] are = tt
  missed pieces k j e is (r ∷ rows) (s ∷ forward) are = (
    λ none. ap (λ q. head_has q (head_there i r.heads)) (sym (is p)) ∙ are.0.each k p (omega (arith, e))
        ∙ sym (mirror-has s.0 s.1 (length pieces) k j are.0.forward are.0.within e) ∙ none,
    missed pieces k j e is rows forward are.1,
  )
  missed pieces k j e is [] (s ∷ forward) are = absurd are
  missed pieces k j e is (r ∷ rows) [] are = absurd are

-- a span with the number is that of a row with the piece
spanned : {T : Type 0} (p : MCtor) (i : ℕ) (pieces : List MCtor) (k j : ℕ) → k + j + 1 ≡ length pieces → ((d : MCtor) → slice_index_or pieces k d ≡ p) →
    (rows : List (MRow T)) (forward : List (ℕ × ℕ)) → AreLeafSpans pieces (column_leaves i rows) forward →
    (q : ℕ) (r : MRow T) → slice_get rows q ≡ Some r →
    span_has j (slice_get (map (mirrored (length pieces)) forward) q) ≡ true → head_has p (head_there i r.heads) ≡ true
spanned p i pieces k j e is [] [] are q r got has = cc
spanned p i pieces k j e is (x ∷ rows) (s ∷ forward) are zero r got has =
    let same : x ≡ r = cc in
    ap (λ (y : MRow _). head_has p (head_there i y.heads)) (sym same)
    ∙ ap (λ q. head_has q (head_there i x.heads)) (sym (is p)) ∙ are.0.each k p (omega (arith, e))
    ∙ sym (mirror-has s.0 s.1 (length pieces) k j are.0.forward are.0.within e) ∙ has
spanned p i pieces k j e is (x ∷ rows) (s ∷ forward) are (suc q) r got has =
    spanned p i pieces k j e is rows forward are.1 q r got has
spanned p i pieces k j e is [] (s ∷ forward) are q r got has = absurd are
spanned p i pieces k j e is (x ∷ rows) [] are q r got has = absurd are

-- ---- the piece that is done next

at-length : (ks gone : List MCtor) (p d : MCtor) → slice_index_or (ks ++ p ∷ gone) (length ks) d ≡ p
at-length [] gone p d = refl
at-length (k ∷ ks) gone p d = at-length ks gone p d

as-many-spans : {T : Type 0} (pieces : List MCtor) (leaves : List (SparseLeaf T)) (forward : List (ℕ × ℕ)) →
    AreLeafSpans pieces leaves forward → length leaves ≡ length forward
as-many-spans pieces [] [] are = refl
as-many-spans pieces (l ∷ leaves) (s ∷ forward) are = ap suc (as-many-spans pieces leaves forward are.1)
as-many-spans pieces [] (s ∷ forward) are = absurd are
as-many-spans pieces (l ∷ leaves) [] are = absurd are

pub longer-at : {T : Type 0} (i : ℕ) (rows : List (MRow T)) (q : ℕ) (r : MRow T) → AreLonger i rows → slice_get rows q ≡ Some r →
    i < length r.heads
longer-at i rows q r longer got =
    subst (λ (x : MRow _). i < length x.heads) (get_or_from_slice_get rows q r r got)
    (longer q r (slice_get_within rows q r got))

-- where one number is left, it is the first of all
led-first : {T : Type 0} (i : ℕ) (rows : List (MRow T)) (numbers all : List ℕ) (k : ℕ) → numbers ≡ k ∷ [] →
    AreLed i rows numbers all → (others : List ℕ) × (all ≡ k ∷ others)
led-first i rows numbers all k one (inl e) = ([], sym e ∙ one)
led-first i rows numbers all k one (inr l) =
    let two : l.first ∷ [] ≡ k ∷ [] = sym l.alone ∙ one in
    let same : l.first ≡ k = cc in
    (l.others, l.all_are ∙ ap (λ q. q ∷ l.others) same)

-- the row that is taken and binds nothing is there
idly-there : {T : Type 0} (i : ℕ) (o : Option (MRow T)) → takes_idly i o ≡ true →
    (r : MRow T) × (o ≡ Some r) × (takes_by is_idle i r ≡ true)
idly-there i None e = untrue e
idly-there i (Some r) e = (r, refl, e)

module _ {T : Type 0} (i : ℕ) (rows : List (MRow T)) (ks : List MCtor) (p : MCtor) (spans : List Span) (todo : List Part)
    (cut : AreCut i rows (ks ++ p ∷ []) spans todo) where
  over : (ks ++ p ∷ []) ++ cut.gone ≡ ks ++ p ∷ cut.gone
  over = append_assoc ks (p ∷ []) cut.gone

  each : AreLeafSpans (ks ++ p ∷ cut.gone) (column_leaves i rows) cut.forward
  each = subst (λ ps. AreLeafSpans ps (column_leaves i rows) cut.forward) over cut.each

  mirror : plain_spans spans ≡ map (mirrored (length (ks ++ p ∷ cut.gone))) cut.forward
  mirror = cut.mirror ∙ ap (λ (ps : List MCtor). map (mirrored (length ps)) cut.forward) over

  -- its number comes first
  pub next-number : pieces_left todo ≡ length cut.gone ∷ columns_from (suc (length cut.gone)) (length ks)
  next-number =
      let n : length (ks ++ p ∷ []) ≡ suc (length ks) = omega (arith, length-append ks (p ∷ [])) in
      cut.left ∙ ap (columns_from (length cut.gone)) n

  -- the rows with this number are those of the piece
  pub next-rows : (n : ℕ) (place : List MStep) →
      listed_at (specialise_head p n) place i rows (leaves_with (plain_spans spans) (length cut.gone))
      ≡ rows_at (specialise_head p n) place i rows
  next-rows n place =
      let count : length ks + length cut.gone + 1 ≡ length (ks ++ p ∷ cut.gone) =
      omega (arith, length-append ks (p ∷ cut.gone)) in
      ap (λ ss. listed_at (specialise_head p n) place i rows (leaves_with ss (length cut.gone))) mirror
      ∙ listed-all p n place i (length cut.gone) rows (map (mirrored (length (ks ++ p ∷ cut.gone))) cut.forward)
      (missed p n place i (ks ++ p ∷ cut.gone) (length ks) (length cut.gone) count (at-length ks cut.gone p) rows
      cut.forward each)

  -- there is a span for each row
  pub next-spans : length (plain_spans spans) ≡ length rows
  next-spans =
      ap length mirror
      ∙ length-map cut.forward (mirrored (length (ks ++ p ∷ cut.gone)))
      ∙ sym (as-many-spans (ks ++ p ∷ cut.gone) (column_leaves i rows) cut.forward each)
      ∙ length-map rows (column_leaf i)

  -- they are rows
  pub next-within : All (λ k. k < length rows) (leaves_with (plain_spans spans) (length cut.gone))
  next-within =
      subst (λ n. All (λ k. k < n) (leaves_with (plain_spans spans) (length cut.gone))) next-spans
      (All-filter (λ k. span_has (length cut.gone) (slice_get (plain_spans spans) k)) (λ k. k < length (plain_spans spans))
      (columns_from 0 (length (plain_spans spans))) (whole_part (plain_spans spans) 1 (omega arith)).within)

  -- and it is done
  pub cut-next : (new : List Part) → pieces_left new ≡ columns_from (suc (length cut.gone)) (length ks) →
      All (IsCutPart i rows spans) new → AreCut i rows ks spans new
  cut-next new left parts = record {
    gone = p ∷ cut.gone;
    forward = cut.forward;
    each = each;
    mirror = mirror;
    left = left;
    parts = parts;
  }

  -- a row whose span has the number has the piece
  next-has : (q : ℕ) (r : MRow T) → slice_get rows q ≡ Some r →
      span_has (length cut.gone) (slice_get (plain_spans spans) q) ≡ true → head_has p (head_there i r.heads) ≡ true
  next-has q r got has =
      let count : length ks + length cut.gone + 1 ≡ length (ks ++ p ∷ cut.gone) =
      omega (arith, length-append ks (p ∷ cut.gone)) in
      spanned p i (ks ++ p ∷ cut.gone) (length ks) (length cut.gone) count (at-length ks cut.gone p) rows cut.forward each q r
      got (ap (λ ss. span_has (length cut.gone) (slice_get ss q)) (sym mirror) ∙ has)

  -- they are rows, too, where the first stands alone
  pub led-within : (numbers : List ℕ) → AreLed i rows numbers (leaves_with (plain_spans spans) (length cut.gone)) →
      All (λ k. k < length rows) numbers
  led-within numbers (inl e) = subst (All (λ k. k < length rows)) (sym e) next-within
  led-within numbers (inr l) =
      let below : ℕ → Type 0 = λ k. k < length rows in
      subst (All below) (sym l.alone)
      (All-cons below l.first [] (All-head below l.first l.others (subst (All below) l.all_are next-within)) (All-nil below))

  -- where the first of the rows stands alone, it is taken
  pub next-front : AreLonger i rows → (numbers : List ℕ) → AreLed i rows numbers (leaves_with (plain_spans spans) (length cut.gone)) →
      (n : ℕ) (place : List MStep) →
      IsFront (listed_at (specialise_head p n) place i rows numbers) (rows_at (specialise_head p n) place i rows)
  next-front longer numbers (inl e) n place =
      inl (ap (listed_at (specialise_head p n) place i rows) e ∙ next-rows n place)
  next-front longer numbers (inr l) n place =
      let made : List (MRow T) → List (MRow T) = rows_at (specialise_head p n) place i in
      let listed : List ℕ → List (MRow T) = listed_at (specialise_head p n) place i rows in
      let has = next-has l.first l.takes.row l.takes.got (kept-first (λ k. span_has (length cut.gone) (slice_get (plain_spans spans) k))
      (columns_from 0 (length (plain_spans spans))) l.first l.others l.all_are) in
      let y = taken-row p n place i l.takes.row (longer-at i rows l.first l.takes.row longer l.takes.got) l.takes.takes has in
      let one : made (option_to_list (slice_get rows l.first)) ≡ y.0 ∷ [] =
      ap (λ o. made (option_to_list o)) l.takes.got ∙ y.1 in
      inr (record {
        taken = record {
          row = y.0;
          alone = ap listed l.alone ∙ ap (λ xs. xs ++ []) one;
          wild = y.2;
          unguarded = y.3;
        };
        others = listed l.others;
        first = sym (next-rows n place) ∙ ap listed l.all_are ∙ ap (λ xs. xs ++ listed l.others) one;
      })

  -- where there is one number, of a row that is taken and binds nothing, its row is the first of the piece
  pub next-idle : (numbers : List ℕ) → AreLed i rows numbers (leaves_with (plain_spans spans) (length cut.gone)) →
      is_idle_alone i rows numbers ≡ true → (k : ℕ) → numbers ≡ k ∷ [] → IsIdleFirst i rows p k
  next-idle numbers led alone k one =
      let all = led-first i rows numbers (leaves_with (plain_spans spans) (length cut.gone)) k one led in
      let r = idly-there i (slice_get rows k) (ap (is_idle_alone i rows) (sym one) ∙ alone) in
      record {
        row = r.0;
        got = r.1;
        takes = r.2;
        has =
            next-has k r.0 r.1 (kept-first (λ q. span_has (length cut.gone) (slice_get (plain_spans spans) q))
            (columns_from 0 (length (plain_spans spans))) k all.0 all.1);
        first = λ n place. (
          listed_at (specialise_head p n) place i rows all.0,
          sym (next-rows n place) ∙ ap (listed_at (specialise_head p n) place i rows) all.1
              ∙ ap (λ o. rows_at (specialise_head p n) place i (option_to_list o)
              ++ listed_at (specialise_head p n) place i rows all.0) r.1,
        );
      }

-- ---- the first time

no-more : (pieces : List MCtor) → pieces ++ [] ≡ pieces
no-more [] = refl
no-more (p ∷ pieces) = ap (λ ps. p ∷ ps) (no-more pieces)

-- what is to do of all pieces
pub cut-begun : {T : Type 0} (i : ℕ) (rows : List (MRow T)) (pieces : List MCtor) (spans : List Span) (todo : List Part)
    (forward : List (ℕ × ℕ)) → AreLeafSpans pieces (column_leaves i rows) forward →
    plain_spans spans ≡ map (mirrored (length pieces)) forward → pieces_left todo ≡ columns_from 0 (length pieces) →
    All (IsFull spans) todo → AreCut i rows pieces spans todo
cut-begun i rows pieces spans todo forward each mirror left full = record {
  gone = [];
  forward = forward;
  each = subst (λ ps. AreLeafSpans ps (column_leaves i rows) forward) (sym (no-more pieces)) each;
  mirror = mirror ∙ ap (λ (ps : List MCtor). map (mirrored (length ps)) forward) (sym (no-more pieces));
  left = left;
  parts = All-weaker (IsFull spans) (IsCutPart i rows spans) (full-part i rows spans) todo full;
}

-- the constructors of the heads of a column
one-first : {T : Type 0} (h : Head T) (hs : List (Head T)) → first_ctor (bare_head h ∷ []) ≡ first_ctor (h ∷ hs)
one-first None hs = refl
one-first (Some (de_pat WildCtor t uid at subs binds)) hs = refl
one-first (Some (de_pat _ t uid at subs binds)) hs = refl

head-first : {T : Type 0} (i : ℕ) (hs : List (Head T)) →
    first_ctor (bare_head (head_there i hs) ∷ []) ≡ first_ctor (drop i hs)
head-first zero [] = refl
head-first (suc i) [] = refl
head-first zero (h ∷ hs) = one-first h hs
head-first (suc i) (h ∷ hs) = head-first i hs

joined : (o : Option MCtor) (xs ys : List MCtor) → xs ≡ ys → option_to_list o ++ xs ≡ cons_option o ys
joined None xs ys e = e
joined (Some k) xs ys e = ap (λ zs. k ∷ zs) e

pub column-ctors : {T : Type 0} (i : ℕ) (rows : List (MRow T)) → leaf_ctors (column_leaves i rows) ≡ ctors_at i rows
column-ctors i [] = refl
column-ctors i (r ∷ rows) =
    ap (λ o. option_to_list o ++ leaf_ctors (column_leaves i rows)) (head-first i r.heads)
    ∙ joined (first_ctor (drop i r.heads)) (leaf_ctors (column_leaves i rows)) (ctors_at i rows) (column-ctors i rows)

-- the leaf of a row
same-head : {T : Type 0} (x : Option (Bor (DePat T))) → plain_head x ≡ plain_pattern x
same-head None = refl
same-head (Some p) = refl

pub there-got : {T : Type 0} (i : ℕ) (hs : List (Head T)) (h : Head T) → slice_get hs i ≡ Some h → head_there i hs ≡ h
there-got i [] h e = cc
there-got zero (x ∷ hs) h e = one x h e
  where
    one : {A : Type 0} (x y : A) → Some x ≡ Some y → x ≡ y
    one x y e = cc
there-got (suc i) (x ∷ hs) h e = there-got i hs h e

pub leaf-read : {T : Type 0} (i : ℕ) (r : KeyedRow T) (h : Option (Bor (DePat T))) (chosen : List ℕ) →
    slice_get (plain_row r).heads i ≡ Some (plain_head h) → chosen ≡ [] →
    leaf_of (plain_pattern h) chosen ≡ column_leaf i (plain_row r)
leaf-read i r h chosen e none =
    ap (leaf_of (plain_pattern h)) none
    ∙ ap (λ q. leaf_of q []) (sym (same-head h) ∙ sym (there-got i (plain_row r).heads (plain_head h) e))

-- what is read within a list does not depend on what would be read outside
pub same-get : {A : Type 0} (xs : List A) (j : ℕ) (d e : A) → j < length xs → get_or xs j d ≡ get_or xs j e
same-get [] j d e l = absurd (omega (arith, l))
same-get (x ∷ xs) zero d e l = refl
same-get (x ∷ xs) (suc j) d e l = same-get xs j d e (omega (arith, l))

-- one number more
pub listed-more : {T : Type 0} (f : Head T → List (Replacement T)) (place : List MStep) (i : ℕ) (rows : List (KeyedRow T))
    (numbers : List ℕ) (j k : ℕ) (x : KeyedRow T) → j < length numbers → k ≡ get_or numbers j k → k < length rows →
    x ≡ get_or rows k x →
    listed_at f place i (plain_rows rows) (take (j + 1) numbers)
    ≡ listed_at f place i (plain_rows rows) (take j numbers) ++ rows_at f place i (plain_row x ∷ [])
listed-more {T} f place i rows numbers j k x l at within is =
    ap (listed_at f place i (plain_rows rows)) (take_more numbers j k l)
    ∙ flat_map-append made (take j numbers) (get_or numbers j k ∷ [])
    ∙ ap (λ q. listed_at f place i (plain_rows rows) (take j numbers) ++ (made q ++ [])) (sym at)
    ∙ ap (λ xs. listed_at f place i (plain_rows rows) (take j numbers) ++ xs) (append-nil (made k))
    ∙ ap (λ o. listed_at f place i (plain_rows rows) (take j numbers) ++ rows_at f place i (option_to_list o))
    (read-map plain_row rows k x within is)
  where
    made : ℕ → List (MRow T)
    made q = rows_at f place i (option_to_list (slice_get (plain_rows rows) q))
