-- The number of a text among the texts of a column tells its piece.
use denote.Ref.{Bor}
use Rattle.std.proofs.Common.{◌≡◌, ◌≢◌, ◌⊎◌, inl, inr, ℕ, zero, suc, ◌+◌, ◌-◌, ◌<◌, ◌≤◌, Bool, true, false, not, ◌&&◌, cond, nat_eq, nat_lt, nat_le, List, [], ◌∷◌, ◌++◌, map, filter_map, take, length, get_or, set, replicate, Option, Some, IsTrue, refl, sym, ap, subst, ◌∙◌, arith}
use Rattle.std.specs.Prelude.{slice_get, chars}
use Rattle.std.specs.List.{All, AllPairs, dedup, dedup_from}
use Rattle.std.specs.Str.{IsUtf8, bytes_eq}
use Rattle.std.specs.Ordering.{is_lt}
use Rattle.std.proofs.lemmas.Bool.Decides.{nat_tests}
use Rattle.std.proofs.lemmas.Grind.{common_steps}
use Rattle.std.proofs.lemmas.List.{get_or-map, length-map, map-append, get_or-set_same, get_or-set_other, length-set, length-replicate, get_or_read}
use Rattle.match_model.specs.Constructors.{MCtor, TextCtor, OtherTextCtor, TextSet, has_piece}
use Rattle.match_model.specs.Pieces.{text_of, AreNamed}
use Rattle.match_model.specs.Texts.{text_eq, compare_texts}
use Rattle.slice_split.proofs.Below.{map-map}
use Rattle.match_model.proofs.Basics.{untrue, both, nat_equal, text_equal, text_itself}
use Rattle.pat_context.specs.Views.{plain_ctor}
use Rattle.pat_context.specs.declared.ctor.Ctor.{Ctor}
use Rattle.pat_context.specs.declared.ctor.Ctor.TheVariants as ctor
use Rattle.constructor_sets.specs.declared.piece.Span.{Span}
use Rattle.constructor_sets.specs.declared.piece.Piece.{Piece}
use Rattle.constructor_sets.specs.declared.piece.PieceState.{PieceState}
use Rattle.constructor_sets.specs.declared.piece.PieceState.TheVariants.{Present, Missing, Empty}
use Rattle.constructor_sets.specs.declared.texts.Entry.{Entry}
use Rattle.constructor_sets.specs.Columns.{plain_ctors, plain_flagged, plain_piece, is_head, IsSetSplit}
use Rattle.constructor_sets.specs.Present.{present_piece, AreKept}
use Rattle.constructor_sets.specs.Spans.{Precedes, plain_span, IsSpan, AreKnownSpans}
use Rattle.constructor_sets.specs.Texts.{entry_text, entry_texts, first_number, AreBytes, IsEntry, last_of, same_entry, continues, with_text, last_span, AreNumbered, is_other_text, is_each_text}
use Rattle.constructor_sets.proofs.SetSplits.{texts_split}
use Rattle.constructor_sets.proofs.Spanning.{not_before_itself}

pub text_entry : (heads : List Ctor) (e : Entry) (place : ℕ) (x : Ctor) (t : Bor (List ℕ)) → e.text.now ≡ t.now → IsUtf8 e.text.now → e.begin ≡ first_number 8 t.now → AreBytes t.now →
    e.place ≡ place → place < length heads → x ≡ get_or heads place x → x ≡ ctor.Text t → IsEntry heads e
text_entry heads e place x t same utf8 begin bytes p within is text = record {
  begun = begin ∙ ap (first_number 8) (sym same);
  utf8 = utf8;
  bytes = subst AreBytes (sym same) bytes;
  within = subst (λ n. n < length heads) (sym p) within;
  is_head = λ d.
      ap (λ n. plain_ctor (get_or heads n d)) p ∙ ap plain_ctor (sym (get_or_read heads place x within is d)) ∙ ap plain_ctor text
      ∙ ap (λ b. TextCtor (chars b)) (sym same);
}

-- the texts that are kept, each once, with one entry more

last_behind : {X : Type 0} (k d : X) (ds : List X) → last_of (k ∷ d ∷ ds) ≡ last_of (d ∷ ds)
last_behind k d ds =
    let e : length (k ∷ d ∷ ds) - 1 ≡ suc (length ds) = omega arith in
    let f : length (d ∷ ds) - 1 ≡ length ds = omega arith in
    ap (slice_get (k ∷ d ∷ ds)) e ∙ sym (ap (slice_get (d ∷ ds)) f)

starts : (k : Entry) (xs : List Entry) → (zs : List Entry) × (dedup_from same_entry k xs ≡ k ∷ zs)
starts k [] = ([], refl)
starts k (x ∷ xs) = go (same_entry x k) (starts k xs)
  where
    go : (b : Bool) → ((zs : List Entry) × (dedup_from same_entry k xs ≡ k ∷ zs)) →
        (zs : List Entry) × (cond b (dedup_from same_entry k xs) (k ∷ dedup_from same_entry x xs) ≡ k ∷ zs)
    go true h = h
    go false h = (dedup_from same_entry x xs, refl)

behind : (k x : Entry) (zs : List Entry) (y : Entry) → k ∷ with_text (x ∷ zs) y ≡ with_text (k ∷ x ∷ zs) y
behind k x zs y = go (continues (last_of (x ∷ zs)) y) ∙ ap (λ (o : Option Entry). cond (continues o y) (k ∷ x ∷ zs) (k ∷ x ∷ zs ++ y ∷ [])) (sym (last_behind k x zs))
  where
    go : (b : Bool) → k ∷ cond b (x ∷ zs) (x ∷ zs ++ y ∷ []) ≡ cond b (k ∷ x ∷ zs) (k ∷ x ∷ zs ++ y ∷ [])
    go true = refl
    go false = refl

behind_kept : (k x : Entry) (ds zs : List Entry) (y : Entry) → ds ≡ x ∷ zs → k ∷ with_text ds y ≡ with_text (k ∷ ds) y
behind_kept k x ds zs y e = subst (λ xs. k ∷ with_text xs y ≡ with_text (k ∷ xs) y) (sym e) (behind k x zs y)

kept_more : (k : Entry) (xs : List Entry) (y : Entry) → dedup_from same_entry k (xs ++ y ∷ []) ≡ with_text (dedup_from same_entry k xs) y
kept_more k [] y = refl
kept_more k (x ∷ xs) y = go (same_entry x k) (kept_more k xs y) (kept_more x xs y) (starts x xs)
  where
    go : (b : Bool) → dedup_from same_entry k (xs ++ y ∷ []) ≡ with_text (dedup_from same_entry k xs) y →
        dedup_from same_entry x (xs ++ y ∷ []) ≡ with_text (dedup_from same_entry x xs) y → ((zs : List Entry) × (dedup_from same_entry x xs ≡ x ∷ zs)) →
        cond b (dedup_from same_entry k (xs ++ y ∷ [])) (k ∷ dedup_from same_entry x (xs ++ y ∷ [])) ≡ with_text (cond b (dedup_from same_entry k xs) (k ∷ dedup_from same_entry x xs)) y
    go true ih jh s = ih
    go false ih jh s = ap (λ zs. k ∷ zs) jh ∙ behind_kept k x (dedup_from same_entry x xs) s.0 y s.1

dedup_more : (xs : List Entry) (y : Entry) → dedup same_entry (xs ++ y ∷ []) ≡ with_text (dedup same_entry xs) y
dedup_more [] y = refl
dedup_more (x ∷ xs) y = kept_more x xs y

pub told_more : (order : List Entry) (i : ℕ) (e : Entry) (old new : List Entry) → i < length order → e ≡ get_or order i e → old ≡ dedup same_entry (take i order) → new ≡ with_text old e →
    new ≡ dedup same_entry (take (i + 1) order)
told_more order i e old new l is o n =
    let grown : take (i + 1) order ≡ take i order ++ e ∷ [] = grind (arith, common_steps) in
    n ∙ ap (λ xs. with_text xs e) o ∙ sym (dedup_more (take i order) e) ∙ ap (dedup same_entry) (sym grown)

-- the last text that is kept is that of the last entry

continued : (xs : List Entry) (n : ℕ) (e : Entry) → continues (slice_get xs n) e ≡ true → (n < length xs) × ((d : Entry) → entry_text (get_or xs n d) ≡ entry_text e)
continued [] n e h = untrue h
continued (x ∷ xs) zero e h = (omega arith, λ d. sym (ap chars (text_equal e.text.now x.text.now (both (nat_eq e.begin x.begin) (bytes_eq e.text.now x.text.now) h).1)))
continued (x ∷ xs) (suc n) e h = let r = continued xs n e h in let l : n < length xs = r.0 in (omega (arith, l), r.1)

at_end : {X : Type 0} (xs : List X) (y d : X) → get_or (xs ++ y ∷ []) (length xs) d ≡ y
at_end [] y d = refl
at_end (x ∷ xs) y d = at_end xs y d

in_front : {X : Type 0} (xs ys : List X) (i : ℕ) (d : X) → i < length xs → get_or (xs ++ ys) i d ≡ get_or xs i d
in_front [] ys i d l = absurd (omega (arith, l))
in_front (x ∷ xs) ys zero d l = refl
in_front (x ∷ xs) ys (suc i) d l = in_front xs ys i d (omega (arith, l))

last_told : (named : List Entry) (e d : Entry) → (0 < length (with_text named e)) × (entry_text (get_or (with_text named e) (length (with_text named e) - 1) d) ≡ entry_text e)
last_told named e d = go (continues (last_of named) e) refl
  where
    go : (b : Bool) → continues (last_of named) e ≡ b →
        (0 < length (cond b named (named ++ e ∷ []))) × (entry_text (get_or (cond b named (named ++ e ∷ [])) (length (cond b named (named ++ e ∷ [])) - 1) d) ≡ entry_text e)
    go true h = let r = continued named (length named - 1) e h in let l : length named - 1 < length named = r.0 in (omega (arith, l), r.1 d)
    go false h =
        let len : length (named ++ e ∷ []) ≡ length named + 1 = grind (arith, common_steps) in
        let less : length (named ++ e ∷ []) - 1 ≡ length named = omega (arith, len) in
        (omega (arith, len), ap (λ n. entry_text (get_or (named ++ e ∷ []) n d)) less ∙ ap entry_text (at_end named e d))

stays : (named : List Entry) (e : Entry) (i : ℕ) (t : List ℕ) → i < length (entry_texts named) →
    (i < length (entry_texts (with_text named e))) × (get_or (entry_texts (with_text named e)) i t ≡ get_or (entry_texts named) i t)
stays named e i t l = go (continues (last_of named) e)
  where
    go : (b : Bool) → (i < length (entry_texts (cond b named (named ++ e ∷ [])))) × (get_or (entry_texts (cond b named (named ++ e ∷ []))) i t ≡ get_or (entry_texts named) i t)
    go true = (l, refl)
    go false =
        let grown : entry_texts (named ++ e ∷ []) ≡ entry_texts named ++ entry_text e ∷ [] = map-append entry_text named (e ∷ []) in
        let more : i < length (entry_texts named ++ entry_text e ∷ []) = grind (arith, common_steps) in
        (subst (λ xs. i < length xs) (sym grown) more, ap (λ xs. get_or xs i t) grown ∙ in_front (entry_texts named) (entry_text e ∷ []) i t l)

-- what is known of heads

pub none_numbered : (heads : List Ctor) (known : List Span) (s : Span) → s.end < s.first → known ≡ replicate (length heads) s → AreNumbered heads [] known
none_numbered heads known s l e = subst (AreNumbered heads []) (sym e) (record {
  len = length-replicate (length heads) s;
  each = λ i h d t m k. absurd (omega (arith, none (get_or (replicate (length heads) s) i d) (all_same (length heads) i d m), k));
})
  where
    all_same : (n i : ℕ) (d : Span) → i < length (replicate n s) → get_or (replicate n s) i d ≡ s
    all_same zero i d m = absurd (omega (arith, m))
    all_same (suc n) zero d m = refl
    all_same (suc n) (suc i) d m = all_same n i d (omega (arith, m))

    none : (x : Span) → x ≡ s → x.end < x.first
    none x e = rw e l

pub numbered_more : (heads : List Ctor) (named new : List Entry) (e : Entry) (old known : List Span) → IsEntry heads e → AreNumbered heads (entry_texts named) old → new ≡ with_text named e →
    known ≡ set old e.place (last_span (length new)) → AreNumbered heads (entry_texts new) known
numbered_more heads named new e old known is a n k =
    subst (λ xs. AreNumbered heads (entry_texts xs) known) (sym n)
    (subst (AreNumbered heads (entry_texts (with_text named e))) (sym (k ∙ ap (λ xs. set old e.place (last_span (length xs))) n)) (record {
      len = length-set old e.place s ∙ a.len;
      each = λ i h d t l m. go i h d t l m (same_or_not i e.place);
    }))
  where
    s : Span
    s = last_span (length (with_text named e))

    Told : (i : ℕ) (h : Ctor) (x : Span) (t : List ℕ) → Type 0
    Told i h x t = (x.end ≡ x.first + 1) × (x.first < length (entry_texts (with_text named e))) × (plain_ctor (get_or heads i h) ≡ TextCtor (get_or (entry_texts (with_text named e)) x.first t))

    same_or_not : (i j : ℕ) → (i ≡ j) ⊎ (i ≢ j)
    same_or_not i j = grind arith

    at_place : (h : Ctor) (t : List ℕ) → Told e.place h s t
    at_place h t =
        let some : 0 < length (with_text named e) = (last_told named e e).0 in
        let len : length (entry_texts (with_text named e)) ≡ length (with_text named e) = length-map (with_text named e) entry_text in (
          omega (arith, some),
          omega (arith, some, len),
          is.is_head h ∙ ap TextCtor (sym (get_or-map entry_text (with_text named e) (length (with_text named e) - 1) e t (omega (arith, some)) ∙ (last_told named e e).1)),
        )

    kept : (i : ℕ) (h : Ctor) (x : Span) (t : List ℕ) → (x.end ≡ x.first + 1) × (x.first < length (entry_texts named)) × (plain_ctor (get_or heads i h) ≡ TextCtor (get_or (entry_texts named) x.first t)) → Told i h x t
    kept i h x t (end, within, head) = let r = stays named e x.first t within in (end, r.0, head ∙ ap TextCtor (sym r.1))

    go : (i : ℕ) (h : Ctor) (d : Span) (t : List ℕ) → i < length (set old e.place s) → (get_or (set old e.place s) i d).first ≤ (get_or (set old e.place s) i d).end → (i ≡ e.place) ⊎ (i ≢ e.place) →
        Told i h (get_or (set old e.place s) i d) t
    go i h d t l m (inl f) =
        let at : get_or (set old e.place s) i d ≡ s = subst (λ j. get_or (set old e.place s) j d ≡ s) (sym f) (get_or-set_same old e.place s d (subst (λ j. e.place < j) (sym a.len) is.within)) in
        subst (λ x. Told i h x t) (sym at) (subst (λ j. Told j h s t) (sym f) (at_place h t))
    go i h d t l m (inr f) =
        let at : get_or (set old e.place s) i d ≡ get_or old i d = get_or-set_other old e.place i s d f in
        subst (λ x. Told i h x t) (sym at) (kept i h (get_or old i d) t (a.each i h d t (omega (arith, l, length-set old e.place s)) (subst (λ y. y.first ≤ y.end) at m)))

-- the piece of a text

apart : (t u : List ℕ) → IsTrue (is_lt (compare_texts t u)) → (text_eq t u ≡ false) × (text_eq u t ≡ false)
apart t u l = (go (text_eq t u) refl, turned (text_eq u t) refl)
  where
    go : (b : Bool) → text_eq t u ≡ b → b ≡ false
    go true e = not_before_itself u (subst (λ x. is_lt (compare_texts x u) ≡ true) (text_equal t u e) l)
    go false e = refl

    turned : (b : Bool) → text_eq u t ≡ b → b ≡ false
    turned true e = not_before_itself t (subst (λ x. is_lt (compare_texts t x) ≡ true) (text_equal u t e) l)
    turned false e = refl

one_text : (texts : List (List ℕ)) (n : ℕ) (t : List ℕ) → AllPairs Precedes (map TextCtor texts) → n < length texts → IsSpan (map TextCtor texts) (TextCtor (get_or texts n t)) (n, n + 1)
one_text texts n t rise l = record {
  forward = omega arith;
  within = omega (arith, l, length-map texts TextCtor);
  each = λ i d m. subst (λ p. has_piece (TextCtor (get_or texts n t)) p ≡ (nat_le n i && nat_lt i (n + 1))) (sym (at i d m)) (go i m (order i n));
}
  where
    at : (i : ℕ) (d : MCtor) → i < length (map TextCtor texts) → get_or (map TextCtor texts) i d ≡ TextCtor (get_or texts i t)
    at i d m = get_or-map TextCtor texts i t d (omega (arith, m, length-map texts TextCtor))

    order : (i j : ℕ) → (i < j) ⊎ ((i ≡ j) ⊎ (j < i))
    order i j = grind arith

    pair : (i j : ℕ) → i < j → j < length (map TextCtor texts) → IsTrue (is_lt (compare_texts (get_or texts i t) (get_or texts j t)))
    pair i j k m =
        subst (λ p. Precedes p (TextCtor (get_or texts j t))) (at i (TextCtor t) (omega (arith, k, m)))
        (subst (λ p. Precedes (get_or (map TextCtor texts) i (TextCtor t)) p) (at j (TextCtor t) m) (rise i j (TextCtor t) k m))

    go : (i : ℕ) → i < length (map TextCtor texts) → (i < n) ⊎ ((i ≡ n) ⊎ (n < i)) → text_eq (get_or texts n t) (get_or texts i t) ≡ (nat_le n i && nat_lt i (n + 1))
    go i m (inl k) =
        let e : nat_le n i ≡ false = grind (arith, nat_tests) in
        (apart (get_or texts i t) (get_or texts n t) (pair i n k (omega (arith, l, length-map texts TextCtor)))).1 ∙ ap (λ b. b && nat_lt i (n + 1)) (sym e)
    go i m (inr (inl k)) =
        let e : nat_le n i ≡ true = grind (arith, nat_tests) in
        let f : nat_lt i (n + 1) ≡ true = grind (arith, nat_tests) in
        subst (λ j. text_eq (get_or texts n t) (get_or texts j t) ≡ true) (sym k) (text_itself (get_or texts n t)) ∙ sym (ap (λ b. b && nat_lt i (n + 1)) e ∙ f)
    go i m (inr (inr k)) =
        let e : nat_le n i ≡ true = grind (arith, nat_tests) in
        let f : nat_lt i (n + 1) ≡ false = grind (arith, nat_tests) in
        (apart (get_or texts n t) (get_or texts i t) (pair n i k m)).0 ∙ sym (ap (λ b. b && nat_lt i (n + 1)) e ∙ f)

pub numbered_spans : (pieces : List MCtor) (heads : List Ctor) (texts : List (List ℕ)) (known : List Span) → pieces ≡ map TextCtor texts → AllPairs Precedes pieces → AreNumbered heads texts known → AreKnownSpans pieces heads known
numbered_spans pieces heads texts known e rise a = λ i h s l k.
    let x = get_or known i s in
    let told = a.each i h s [] l k in
    let span : IsSpan (map TextCtor texts) (TextCtor (get_or texts x.first [])) (x.first, x.first + 1) = one_text texts x.first [] (subst (AllPairs Precedes) e rise) told.1 in
    subst (λ ps. IsSpan ps (plain_ctor (get_or heads i h)) (plain_span x)) (sym e)
    (subst (λ c. IsSpan (map TextCtor texts) c (plain_span x)) (sym told.2) (subst (λ n. IsSpan (map TextCtor texts) (TextCtor (get_or texts x.first [])) (x.first, n)) (sym told.0) span))

-- what is told entry by entry

same_at : {X : Type 0} (xs : List X) (i : ℕ) (d e : X) → i < length xs → get_or xs i d ≡ get_or xs i e
same_at [] i d e l = absurd (omega (arith, l))
same_at (x ∷ xs) zero d e l = refl
same_at (x ∷ xs) (suc i) d e l = same_at xs i d e (omega (arith, l))

pub entry_at : (heads : List Ctor) (order items : List Entry) (i : ℕ) (d : Entry) → items ≡ order → All (IsEntry heads) order → i < length items → IsEntry heads (get_or items i d)
entry_at heads order items i d e all l = (subst (All (IsEntry heads)) (sym e) all) i d l

pub place_known : (heads : List Ctor) (order items : List Entry) (i : ℕ) (d : Entry) (texts : List (List ℕ)) (known : List Span) → items ≡ order → All (IsEntry heads) order → i < length items →
    AreNumbered heads texts known → (get_or items i d).place < length known
place_known heads order items i d texts known e all l a = subst (λ n. (get_or items i d).place < n) (sym a.len) (entry_at heads order items i d e all l).within

pub told_step : (heads : List Ctor) (order items : List Entry) (i : ℕ) (d : Entry) (named new : List Entry) (old known : List Span) → items ≡ order → All (IsEntry heads) order → i < length items →
    (named ≡ dedup same_entry (take i items)) × AreNumbered heads (entry_texts named) old → new ≡ with_text named (get_or items i d) → known ≡ set old (get_or items i d).place (last_span (length new)) →
    (new ≡ dedup same_entry (take (i + 1) items)) × AreNumbered heads (entry_texts new) known
told_step heads order items i d named new old known e all l told n k =
    (told_more items i (get_or items i d) named new l (same_at items i d (get_or items i d) l) told.0 n, numbered_more heads named new (get_or items i d) old known (entry_at heads order items i d e all l) told.1 n k)

-- the pieces of texts

unflagged : (flagged : List (Ctor × Bool)) (texts : List (List ℕ)) → plain_flagged flagged ≡ map (λ t. (TextCtor t, true)) texts ++ (OtherTextCtor, false) ∷ [] →
    map (λ (p : Ctor × Bool). plain_ctor p.0) flagged ≡ map TextCtor texts ++ OtherTextCtor ∷ []
unflagged flagged texts e =
    sym (map-map (λ (p : MCtor × Bool). p.0) (λ (p : Ctor × Bool). (plain_ctor p.0, p.1)) flagged) ∙ ap (map (λ (p : MCtor × Bool). p.0)) e
    ∙ map-append (λ (p : MCtor × Bool). p.0) (map (λ t. (TextCtor t, true)) texts) ((OtherTextCtor, false) ∷ [])
    ∙ ap (λ xs. xs ++ OtherTextCtor ∷ []) (map-map (λ (p : MCtor × Bool). p.0) (λ (t : List ℕ). (TextCtor t, true)) texts)

abbrev Fate : (texts : List (List ℕ)) → (found : List MCtor) → Type 0
Fate texts found = (found ≡ map TextCtor texts) ⊎ (((qs : List MCtor) × (found ≡ qs ++ OtherTextCtor ∷ [])) ⊎ (length found < length texts))

abbrev tail_of : {X : Type 0} → List X → List X
tail_of [] = []
tail_of (x ∷ xs) = xs

abbrev head_of : MCtor → List MCtor → MCtor
head_of d [] = d
head_of d (x ∷ xs) = x

fates : (texts : List (List ℕ)) (ps : List Piece) → map (λ p. plain_ctor p.ctor) ps ≡ map TextCtor texts ++ OtherTextCtor ∷ [] → Fate texts (filter_map present_piece (map plain_piece ps))
fates [] [] e = inl refl
fates (t ∷ texts) [] e = absurd (differ e)
  where
    differ : [] ≡ TextCtor t ∷ map TextCtor texts ++ OtherTextCtor ∷ [] → ⊥
    differ e = cc
fates [] (p ∷ ps) e = last p.state (ends ps (ap tail_of e))
  where
    c : plain_ctor p.ctor ≡ OtherTextCtor
    c = ap (head_of OtherTextCtor) e

    ends : (ps : List Piece) → map (λ q. plain_ctor q.ctor) ps ≡ [] → ps ≡ []
    ends [] e = refl
    ends (q ∷ qs) e = absurd (cc)

    last : (s : PieceState) → ps ≡ [] → Fate [] (filter_map present_piece ((plain_ctor p.ctor, s) ∷ map plain_piece ps))
    last Present f = inr (inl ([], subst (λ qs. plain_ctor p.ctor ∷ filter_map present_piece (map plain_piece qs) ≡ OtherTextCtor ∷ []) (sym f) (ap (λ x. x ∷ []) c)))
    last Missing f = inl (ap (λ qs. filter_map present_piece (map plain_piece qs)) f)
    last Empty f = inl (ap (λ qs. filter_map present_piece (map plain_piece qs)) f)
fates (t ∷ texts) (p ∷ ps) e = more p.state (fates texts ps (ap tail_of e))
  where
    c : plain_ctor p.ctor ≡ TextCtor t
    c = ap (head_of OtherTextCtor) e

    found : List MCtor
    found = filter_map present_piece (map plain_piece ps)

    more : (s : PieceState) → Fate texts found → Fate (t ∷ texts) (filter_map present_piece ((plain_ctor p.ctor, s) ∷ map plain_piece ps))
    more Present (inl f) = inl (ap (λ x. x ∷ found) c ∙ ap (λ xs. TextCtor t ∷ xs) f)
    more Present (inr (inl (qs, f))) = inr (inl (plain_ctor p.ctor ∷ qs, ap (λ xs. plain_ctor p.ctor ∷ xs) f))
    more Present (inr (inr l)) = inr (inr (omega (arith, l)))
    more Missing f = less f
      where
        less : Fate texts found → Fate (t ∷ texts) found
        less (inl f) = let n = ap length f ∙ length-map texts TextCtor in inr (inr (omega (arith, n)))
        less (inr (inl f)) = inr (inl f)
        less (inr (inr l)) = inr (inr (omega (arith, l)))
    more Empty f = less f
      where
        less : Fate texts found → Fate (t ∷ texts) found
        less (inl f) = let n = ap length f ∙ length-map texts TextCtor in inr (inr (omega (arith, n)))
        less (inr (inl f)) = inr (inl f)
        less (inr (inr l)) = inr (inr (omega (arith, l)))

other_is : (x : Ctor) → plain_ctor x ≡ OtherTextCtor → is_other_text (Some x) ≡ true
other_is ctor.OtherText e = refl
other_is ctor.Single e = absurd (cc)
other_is ctor.Point e = absurd (cc)
other_is (ctor.Variant k) e = absurd (cc)
other_is ctor.Later e = absurd (cc)
other_is (ctor.Flag b) e = absurd (cc)
other_is (ctor.Numbers r) e = absurd (cc)
other_is (ctor.Text t) e = absurd (cc)
other_is (ctor.Row s) e = absurd (cc)
other_is ctor.Wild e = absurd (cc)
other_is ctor.Or e = absurd (cc)

other_at : (pieces : List Ctor) (qs : List MCtor) → plain_ctors pieces ≡ qs ++ OtherTextCtor ∷ [] → is_other_text (slice_get pieces (length qs)) ≡ true
other_at [] [] e = absurd (cc)
other_at [] (q ∷ qs) e = absurd (cc)
other_at (x ∷ pieces) [] e = other_is x (ap (head_of OtherTextCtor) e)
other_at (x ∷ pieces) (q ∷ qs) e = other_at pieces qs (ap tail_of e)

ends_other : (pieces : List Ctor) (qs : List MCtor) → plain_ctors pieces ≡ qs ++ OtherTextCtor ∷ [] → is_other_text (last_of pieces) ≡ true
ends_other pieces qs e =
    let added : length (qs ++ OtherTextCtor ∷ []) ≡ length qs + 1 = grind (arith, common_steps) in
    let n : length pieces ≡ length qs + 1 = sym (length-map pieces plain_ctor) ∙ ap length e ∙ added in
    let m : length pieces - 1 ≡ length qs = omega (arith, n) in
    ap (λ k. is_other_text (slice_get pieces k)) m ∙ other_at pieces qs e

pub all_kept : (pieces : List Ctor) (flagged : List (Ctor × Bool)) (named : List Entry) → plain_flagged flagged ≡ map (λ t. (TextCtor t, true)) (entry_texts named) ++ (OtherTextCtor, false) ∷ [] →
    AreKept flagged (plain_ctors pieces) → IsTrue (is_each_text (length named) pieces) → plain_ctors pieces ≡ map TextCtor (entry_texts named)
all_kept pieces flagged named e k h = go (fates (entry_texts named) k.pieces (k.same ∙ unflagged flagged (entry_texts named) e))
  where
    tests : (nat_eq (length pieces) (length named) ≡ true) × (not (is_other_text (last_of pieces)) ≡ true)
    tests = both (nat_eq (length pieces) (length named)) (not (is_other_text (last_of pieces))) h

    found : List MCtor
    found = filter_map present_piece (map plain_piece k.pieces)

    go : Fate (entry_texts named) found → plain_ctors pieces ≡ map TextCtor (entry_texts named)
    go (inl f) = k.present ∙ f
    go (inr (inl (qs, f))) = untrue (sym (ap not (ends_other pieces qs (k.present ∙ f))) ∙ tests.1)
    go (inr (inr l)) =
        let same : length pieces ≡ length named = nat_equal (length pieces) (length named) tests.0 in
        let n : length pieces ≡ length found = sym (length-map pieces plain_ctor) ∙ ap length k.present in
        let m : length (entry_texts named) ≡ length named = length-map named entry_text in
        absurd (omega (arith, l, same, n, m))

pub text_split : (heads : List MCtor) (flagged : List (Ctor × Bool)) (texts : List (List ℕ)) → All (λ h. IsTrue (is_head TextSet h)) heads → AreNamed (filter_map text_of heads) texts →
    plain_flagged flagged ≡ map (λ t. (TextCtor t, true)) texts ++ (OtherTextCtor, false) ∷ [] → IsSetSplit TextSet heads (plain_flagged flagged)
text_split heads flagged texts all named e = subst (IsSetSplit TextSet heads) (sym e) (texts_split heads texts all named)
