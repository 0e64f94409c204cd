-- Which pairs of ranges may overlap: finitely many, each of which can be asked.
use Rattle.std.proofs.Common.{◌≡◌, ◌⊎◌, inl, inr, suc, ℤ, Bool, true, false, List, [], ◌∷◌, ◌++◌, int_eq, refl, sym, ap, subst, ◌∙◌, arith}
use Rattle.std.specs.List.{Contains}
use Rattle.match_model.specs.Numbers.{MEnd, Free, At, MRange}
use Rattle.match_model.specs.Lists.{Among}
use Rattle.match_model.specs.Overlaps.{MeetAt}
use Rattle.match_model.proofs.Basics.{int_equal, int_itself}

-- ---- lists

pub among_first : {A : Type 0} (xs ys : List A) (x : A) → Among x xs → Among x (xs ++ ys)
among_first [] ys x i = absurd i
among_first (y ∷ xs) ys x (inl e) = inl e
among_first (y ∷ xs) ys x (inr i) = inr (among_first xs ys x i)

pub among_second : {A : Type 0} (xs ys : List A) (x : A) → Among x ys → Among x (xs ++ ys)
among_second [] ys x i = i
among_second (y ∷ xs) ys x i = inr (among_second xs ys x i)

-- what each gives, one after the other
pub all_of : {A B : Type 0} → (A → List B) → List A → List B
all_of f [] = []
all_of f (x ∷ xs) = f x ++ all_of f xs

pub among_all : {A B : Type 0} (f : A → List B) (xs : List A) (x : A) (y : B) → Among x xs → Among y (f x) → Among y (all_of f xs)
unfolding all_of
among_all f [] x y i j = absurd i
among_all f (z ∷ xs) x y (inl e) j = among_first (f z) (all_of f xs) y (subst (λ a. Among y (f a)) e j)
among_all f (z ∷ xs) x y (inr i) j = among_second (f z) (all_of f xs) y (among_all f xs x y i j)

-- a thing that a list contains
pub record Inside {A : Type 0} (xs : List A) : Type 0 where
  pub one : A
  pub inside : Contains xs one

behind : {A : Type 0} (x y : A) (xs : List A) → Contains xs y → Contains (x ∷ xs) y
behind x y xs (n, l, e) = (suc n, omega (arith, l), e)

moved : {A : Type 0} (x : A) (xs : List A) → List (Inside xs) → List (Inside (x ∷ xs))
moved x xs [] = []
moved x xs (i ∷ rest) = record { one = i.one; inside = behind x i.one xs i.inside } ∷ moved x xs rest

-- all that it contains
pub each_inside : {A : Type 0} (xs : List A) → List (Inside xs)
each_inside [] = []
each_inside (x ∷ xs) = record { one = x; inside = (0, omega arith, refl) } ∷ moved x xs (each_inside xs)

-- it is among them
pub record Listed {A : Type 0} (xs : List A) (all : List (Inside xs)) (x : A) : Type 0 where
  pub at : Inside xs
  pub there : Among at all
  pub is : at.one ≡ x

moved_there : {A : Type 0} (x y : A) (xs : List A) (all : List (Inside xs)) → Listed xs all y → Listed (x ∷ xs) (moved x xs all) y
unfolding moved
moved_there x y xs [] h = absurd h.there
moved_there {A} x y xs (i ∷ rest) h = by (λ j. moved_there x y xs rest (record { at = h.at; there = j; is = h.is })) h.there
  where
    by : (Among h.at rest → Listed (x ∷ xs) (moved x xs rest) y) → (h.at ≡ i) ⊎ Among h.at rest →
        Listed (x ∷ xs) (record { one = i.one; inside = behind x i.one xs i.inside } ∷ moved x xs rest) y
    by later (inl e) = record {
      at = record { one = i.one; inside = behind x i.one xs i.inside };
      there = inl refl;
      is = ap (λ (z : Inside xs). z.one) (sym e) ∙ h.is;
    }
    by later (inr j) = let l = later j in record { at = l.at; there = inr l.there; is = l.is }

pub listed : {A : Type 0} (xs : List A) (x : A) → Among x xs → Listed xs (each_inside xs) x
unfolding each_inside
listed [] x i = absurd i
listed (y ∷ xs) x (inl e) = record { at = record { one = y; inside = (0, omega arith, refl) }; there = inl refl; is = sym e }
listed (y ∷ xs) x (inr i) =
    let later = moved_there y x xs (each_inside xs) (listed xs x i) in
    record { at = later.at; there = inr later.there; is = later.is }

-- ---- the number at which two ranges meet

-- both ends are at one number
record BothAt (a b : MEnd) : Type 0 where
  number : ℤ
  first : a ≡ At number
  second : b ≡ At number

number_if : (m n : ℤ) (t : Bool) → int_eq m n ≡ t → List (BothAt (At m) (At n))
number_if m n true e = record { number = m; first = refl; second = ap (λ z. At z) (sym (int_equal m n e)) } ∷ []
number_if m n false e = []

numbers_at : (a b : MEnd) → List (BothAt a b)
numbers_at (At m) (At n) = number_if m n (int_eq m n) refl
numbers_at a b = []

record FoundAt (a b : MEnd) (all : List (BothAt a b)) (x : ℤ) : Type 0 where
  at : BothAt a b
  there : Among at all
  is : at.number ≡ x

found_if : (m n x : ℤ) (t : Bool) (h : int_eq m n ≡ t) → m ≡ x → n ≡ x → FoundAt (At m) (At n) (number_if m n t h) x
unfolding number_if
found_if m n x true h e g = record {
  at = record { number = m; first = refl; second = ap (λ z. At z) (sym (int_equal m n h)) };
  there = inl refl;
  is = e;
}
found_if m n x false h e g =
    let yes : int_eq m n ≡ true = ap (λ z. int_eq m z) (g ∙ sym e) ∙ int_itself m in
    let no : true ≡ false = sym yes ∙ h in
    absurd cc

found_at : (a b : MEnd) (x : ℤ) → a ≡ At x → b ≡ At x → FoundAt a b (numbers_at a b) x
unfolding numbers_at
found_at (At m) (At n) x e g =
    let one : m ≡ x = cc in
    let two : n ≡ x = cc in
    found_if m n x (int_eq m n) refl one two
found_at Free b x e g = absurd cc
found_at (At m) Free x e g = absurd cc

pub record NumberMet (r s : MRange) : Type 0 where
  pub number : ℤ
  pub meet : MeetAt r s number

firsts : (r s : MRange) → List (BothAt r.high s.low) → List (NumberMet r s)
firsts r s [] = []
firsts r s (b ∷ bs) = record { number = b.number; meet = inl (b.first, b.second) } ∷ firsts r s bs

seconds : (r s : MRange) → List (BothAt s.high r.low) → List (NumberMet r s)
seconds r s [] = []
seconds r s (b ∷ bs) = record { number = b.number; meet = inr (b.first, b.second) } ∷ seconds r s bs

pub numbers_met : (r s : MRange) → List (NumberMet r s)
numbers_met r s = firsts r s (numbers_at r.high s.low) ++ seconds r s (numbers_at s.high r.low)

pub record MetThere (r s : MRange) (all : List (NumberMet r s)) (x : ℤ) : Type 0 where
  pub at : NumberMet r s
  pub there : Among at all
  pub is : at.number ≡ x

among_firsts : (r s : MRange) (bs : List (BothAt r.high s.low)) (b : BothAt r.high s.low) → Among b bs →
    Among (record { number = b.number; meet = inl (b.first, b.second) }) (firsts r s bs)
unfolding firsts
among_firsts r s [] b i = absurd i
among_firsts r s (c ∷ bs) b (inl e) =
    inl (ap (λ (d : BothAt r.high s.low). record { number = d.number; meet = inl (d.first, d.second) }) e)
among_firsts r s (c ∷ bs) b (inr i) = inr (among_firsts r s bs b i)

among_seconds : (r s : MRange) (bs : List (BothAt s.high r.low)) (b : BothAt s.high r.low) → Among b bs →
    Among (record { number = b.number; meet = inr (b.first, b.second) }) (seconds r s bs)
unfolding seconds
among_seconds r s [] b i = absurd i
among_seconds r s (c ∷ bs) b (inl e) =
    inl (ap (λ (d : BothAt s.high r.low). record { number = d.number; meet = inr (d.first, d.second) }) e)
among_seconds r s (c ∷ bs) b (inr i) = inr (among_seconds r s bs b i)

pub met_there : (r s : MRange) (x : ℤ) → MeetAt r s x → MetThere r s (numbers_met r s) x
unfolding numbers_met
met_there r s x (inl h) =
    let f = found_at r.high s.low x h.0 h.1 in
    record {
      at = record { number = f.at.number; meet = inl (f.at.first, f.at.second) };
      there = among_first (firsts r s (numbers_at r.high s.low)) (seconds r s (numbers_at s.high r.low))
          (record { number = f.at.number; meet = inl (f.at.first, f.at.second) })
          (among_firsts r s (numbers_at r.high s.low) f.at f.there);
      is = f.is;
    }
met_there r s x (inr h) =
    let f = found_at s.high r.low x h.0 h.1 in
    record {
      at = record { number = f.at.number; meet = inr (f.at.first, f.at.second) };
      there = among_second (firsts r s (numbers_at r.high s.low)) (seconds r s (numbers_at s.high r.low))
          (record { number = f.at.number; meet = inr (f.at.first, f.at.second) })
          (among_seconds r s (numbers_at s.high r.low) f.at f.there);
      is = f.is;
    }
