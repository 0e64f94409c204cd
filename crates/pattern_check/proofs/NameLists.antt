-- Lists of names, as they grow.
use Rattle.std.proofs.Common.{◌≡◌, ℕ, suc, zero, ◌+◌, ◌<◌, ◌≤◌, add-one, Bool, true, false, ◌||◌, List, [], ◌∷◌, ◌++◌, map, length, take, drop, get_or, Bor, refl, sym, ap, subst, ◌∙◌, append_assoc, arith}
use Rattle.std.specs.Str.{bytes_eq}
use Rattle.std.specs.List.{list_any}
use Rattle.std.proofs.Math.Seq.{drop-cons, take-suc}
use Rattle.std.proofs.lemmas.List.{map-append, append-nil, take_all, take-append-le, take-append-drop, length-map, drop-map}
use Rattle.std.proofs.lemmas.List.Folds.{list_any-append}
use Rattle.std.proofs.lemmas.Slice.Eq.{bytes_eq-Decides}
use Rattle.indexmap.specs.IndexSet.{insert_key}
use Rattle.type_names.specs.NameRules.{is_among}
use Rattle.pattern_check.specs.Walks.{text_at, Holds, Adds}

or_false : (b : Bool) → b ≡ (b || false)
or_false true = refl
or_false false = refl

or_both : (a b c : Bool) → ((a || b) || c) ≡ (a || (b || c))
or_both true b c = refl
or_both false b c = refl

pub among_append : (q : List ℕ) (xs ys : List (List ℕ)) → is_among q (xs ++ ys) ≡ (is_among q xs || is_among q ys)
among_append q xs ys = list_any-append (bytes_eq q) xs ys

-- the first ones are as many or fewer
pub kept_fewer : {A : Type 0} (old new : List A) → take (length old) new ≡ old → length old ≤ length new
kept_fewer [] new h = omega arith
kept_fewer (x ∷ xs) [] h = absurd (nil_cons h)
  where
    nil_cons : {B : Type 0} {y : B} {ys : List B} → [] ≡ y ∷ ys → ⊥
    nil_cons e = cc
kept_fewer (x ∷ xs) (y ∷ ys) h =
    let tail : take (length xs) ys ≡ xs = cc in
    let less : length xs ≤ length ys = kept_fewer xs ys tail in
    omega arith

take_twice : {A : Type 0} (n m : ℕ) (xs : List A) → n ≤ m → take n (take m xs) ≡ take n xs
take_twice zero m xs le = refl
take_twice (suc n) zero xs le = absurd (omega arith)
take_twice (suc n) (suc m) [] le = refl
take_twice (suc n) (suc m) (x ∷ xs) le = ap (λ ys. x ∷ ys) (take_twice n m xs (omega arith))

pub adds_none : (a : List (List ℕ)) → Adds a a []
adds_none a = record {
  among = λ q. or_false (is_among q a);
  kept = take_all (length a) a (omega arith);
}

pub adds_both : (a b c ns ms : List (List ℕ)) → Adds a b ns → Adds b c ms → Adds a c (ns ++ ms)
adds_both a b c ns ms x y = record {
  among = λ q.
      y.among q
      ∙ (ap (λ (t : Bool). t || is_among q ms) (x.among q)
      ∙ (or_both (is_among q a) (is_among q ns) (is_among q ms) ∙ ap (λ (t : Bool). is_among q a || t) (sym (among_append q ns ms))));
  kept =
      sym (take_twice (length a) (length b) c (kept_fewer a b x.kept))
      ∙ (ap (λ (xs : List (List ℕ)). take (length a) xs) y.kept ∙ x.kept);
}

-- what is bound before grows by the names that were added
pub holds_adds : (old new ns before : List (List ℕ)) → Holds old before → Adds old new ns → Holds new (before ++ ns)
holds_adds old new ns before h x q =
    x.among q ∙ (ap (λ (t : Bool). t || is_among q ns) (h q) ∙ sym (among_append q before ns))

-- texts are the same where their bytes are
same_text : (a b : Bor (List ℕ)) → Bool
same_text a b = bytes_eq a.now b.now

any_text : (q : List ℕ) (ks : List (Bor (List ℕ))) → list_any (λ (b : Bor (List ℕ)). bytes_eq q b.now) ks ≡ is_among q (map text_at ks)
any_text q [] = refl
any_text q (k ∷ ks) = ap (λ (t : Bool). bytes_eq q k.now || t) (any_text q ks)

-- whether a name is there
pub text_there : (ks : List (Bor (List ℕ))) (k : Bor (List ℕ)) → list_any (λ (b : Bor (List ℕ)). bytes_eq k.now b.now) ks ≡ is_among k.now (map text_at ks)
text_there ks k = any_text k.now ks

-- one name that is there already
there_already : (ts : List (List ℕ)) (n : List ℕ) → is_among n ts ≡ true → Adds ts ts (n ∷ [])
there_already ts n h = record {
  among = λ q. by q (bytes_eq q n) refl;
  kept = take_all (length ts) ts (omega arith);
}
  where
    or_true : (b : Bool) → (b || true) ≡ true
    or_true true = refl
    or_true false = refl

    by : (q : List ℕ) (b : Bool) → bytes_eq q n ≡ b → is_among q ts ≡ (is_among q ts || (bytes_eq q n || false))
    by q true e =
        let same : q ≡ n = (bytes_eq-Decides q n).0 e in
        let there : is_among q ts ≡ true = ap (λ (m : List ℕ). is_among m ts) same ∙ h in
        rw e (there ∙ sym (or_true (is_among q ts)))
    by q false e = rw e (or_false (is_among q ts))

-- one name behind the others
put_last : (ts : List (List ℕ)) (n : List ℕ) → Adds ts (ts ++ n ∷ []) (n ∷ [])
put_last ts n = record {
  among = λ q. among_append q ts (n ∷ []);
  kept = take-append-le (length ts) ts (n ∷ []) (omega arith) ∙ take_all (length ts) ts (omega arith);
}

-- a name that is put into a set
pub adds_key : (ks : List (Bor (List ℕ))) (k : Bor (List ℕ)) (new : List (Bor (List ℕ))) → new ≡ insert_key (λ (a b : Bor (List ℕ)). bytes_eq a.now b.now) ks k →
    Adds (map text_at ks) (map text_at new) (k.now ∷ [])
adds_key ks k new e = by (list_any (λ (b : Bor (List ℕ)). bytes_eq k.now b.now) ks) refl
  where
    by : (b : Bool) → list_any (λ (x : Bor (List ℕ)). bytes_eq k.now x.now) ks ≡ b → Adds (map text_at ks) (map text_at new) (k.now ∷ [])
    by true h =
        let same : new ≡ ks = e ∙ rw h refl in
        subst (λ (xs : List (Bor (List ℕ))). Adds (map text_at ks) (map text_at xs) (k.now ∷ [])) (sym same)
        (there_already (map text_at ks) k.now (sym (text_there ks k) ∙ h))
    by false h =
        let longer : new ≡ ks ++ k ∷ [] = e ∙ rw h refl in
        let texts : map text_at new ≡ map text_at ks ++ k.now ∷ [] = ap (λ (xs : List (Bor (List ℕ))). map text_at xs) longer ∙ map-append text_at ks (k ∷ []) in
        subst (λ (xs : List (List ℕ)). Adds (map text_at ks) xs (k.now ∷ [])) (sym texts) (put_last (map text_at ks) k.now)

-- one more name from the list was copied
pub copied : (ns list : List (Bor (List ℕ))) (i : ℕ) (n : Bor (List ℕ)) (all : List (List ℕ)) → i < length ns → n ≡ get_or ns i n →
    map text_at list ++ drop i (map text_at ns) ≡ all → map text_at (list ++ n ∷ []) ++ drop (i + 1) (map text_at ns) ≡ all
copied ns list i n all lt e h =
    let head : drop i (map text_at ns) ≡ n.now ∷ drop (i + 1) (map text_at ns)
    = drop-map text_at i ns ∙ (ap (λ (xs : List (Bor (List ℕ))). map text_at xs) (drop-cons ns i n lt)
    ∙ (ap (λ (x : Bor (List ℕ)). x.now ∷ map text_at (drop (suc i) ns)) (sym e)
    ∙ ap (λ (xs : List (List ℕ)). n.now ∷ xs) (sym (drop-map text_at (suc i) ns) ∙ ap (λ (k : ℕ). drop k (map text_at ns)) (sym (add-one i))))) in
    ap (λ (xs : List (List ℕ)). xs ++ drop (i + 1) (map text_at ns)) (map-append text_at list (n ∷ []))
    ∙ (append_assoc (map text_at list) (n.now ∷ []) (drop (i + 1) (map text_at ns))
    ∙ (ap (λ (xs : List (List ℕ)). map text_at list ++ xs) (sym head) ∙ h))

-- all names were copied
pub copied_all : (ns : List (Bor (List ℕ))) (list all : List (List ℕ)) (i : ℕ) → length ns ≤ i → list ++ drop i (map text_at ns) ≡ all → list ≡ all
copied_all ns list all i le h =
    sym (append-nil list) ∙ (ap (λ (xs : List (List ℕ)). list ++ xs) (sym (none (map text_at ns) i (omega (arith, length-map ns text_at)))) ∙ h)
  where
    none : (xs : List (List ℕ)) (i : ℕ) → length xs ≤ i → drop i xs ≡ []
    none [] zero le = refl
    none [] (suc i) le = refl
    none (x ∷ xs) zero le = absurd (omega arith)
    none (x ∷ xs) (suc i) le = none xs i (omega arith)

-- the names up to here and one more
pub one_more_text : (ns : List (Bor (List ℕ))) (i : ℕ) (n : Bor (List ℕ)) → i < length ns → n ≡ get_or ns i n → map text_at (take (i + 1) ns) ≡ map text_at (take i ns) ++ n.now ∷ []
one_more_text ns i n lt e =
    ap (λ (k : ℕ). map text_at (take k ns)) (add-one i)
    ∙ (ap (λ (xs : List (Bor (List ℕ))). map text_at xs) (take-suc ns i n lt)
    ∙ (map-append text_at (take i ns) (get_or ns i n ∷ []) ∙ ap (λ (x : Bor (List ℕ)). map text_at (take i ns) ++ x.now ∷ []) (sym e)))

or_step : (o a e x b : Bool) → (o || e) ≡ (o || b) → (o || a) ≡ (o || x) → (o || (a || e)) ≡ (o || (x || b))
or_step true a e x b f h = refl
or_step false a e x b f h = ap (λ (t : Bool). t || e) h ∙ ap (λ (t : Bool). x || t) f

-- the names of one more alternative
pub aside_step : (old new aside these here : List (List ℕ)) (q : List ℕ) → Adds old new here → is_among q (old ++ aside) ≡ is_among q (old ++ these) →
    is_among q (old ++ (aside ++ drop (length old) new)) ≡ is_among q (old ++ (these ++ here))
aside_step old new aside these here q x h =
    let ext = drop (length old) new in
    let whole : old ++ ext ≡ new = ap (λ (xs : List (List ℕ)). xs ++ ext) (sym x.kept) ∙ take-append-drop (length old) new in
    let told : (is_among q old || is_among q ext) ≡ (is_among q old || is_among q here)
    = sym (among_append q old ext) ∙ (ap (λ (xs : List (List ℕ)). is_among q xs) whole ∙ x.among q) in
    let before : (is_among q old || is_among q aside) ≡ (is_among q old || is_among q these) = sym (among_append q old aside) ∙ (h ∙ among_append q old these) in
    among_append q old (aside ++ ext)
    ∙ (ap (λ (t : Bool). is_among q old || t) (among_append q aside ext)
    ∙ (or_step (is_among q old) (is_among q aside) (is_among q ext) (is_among q these) (is_among q here) told before
    ∙ (ap (λ (t : Bool). is_among q old || t) (sym (among_append q these here)) ∙ sym (among_append q old (these ++ here)))))

-- names that are told otherwise
pub adds_like : (old new ms ns : List (List ℕ)) → Adds old new ms → ((q : List ℕ) → is_among q (old ++ ms) ≡ is_among q (old ++ ns)) → Adds old new ns
adds_like old new ms ns x h = record {
  among = λ q. x.among q ∙ (sym (among_append q old ms) ∙ (h q ∙ among_append q old ns));
  kept = x.kept;
}
