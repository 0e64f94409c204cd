-- What the search has found stays found, and the places of it keep their numbers, while more is found.
use Rattle.std.proofs.Common.{◌≡◌, ◌<◌, ℕ, zero, suc, ◌+◌, ◌-◌, Bool, true, false, not, cond, List, [], ◌∷◌, ◌++◌, map, length, take, Some, refl, sym, ap, subst, ◌∙◌, arith, append_assoc, append-nil, vec_len}
use Rattle.std.specs.List.{position_or_len}
use Rattle.std.proofs.lemmas.List.{take_at, length_push, map-append}
use Rattle.match_model.specs.Constructors.{MCtor, OrCtor}
use Rattle.range_split.specs.Ranges.{plain_range}
use Rattle.pattern_lints.specs.declared.found.PlaceStep.{PlaceStep}
use Rattle.pattern_lints.specs.declared.found.FoundRange.{FoundRange}
use Rattle.pattern_lints.specs.declared.found.Finding.{Finding}
use Rattle.pattern_lints.specs.Spots.{PartStep, Spot, step_in, steps_below, spot_below, own_spot}
use Rattle.pattern_lints.specs.Finding.{RangeView, range_view, range_views, same_step, IsStep, IsPlace, Steps, Opens, IsNoted, AreNoted, Notes}

-- a first place stays first when more follows
position-stays : {X : Type 0} (p : X → Bool) (xs ys : List X) → position_or_len p xs < length xs → position_or_len p (xs ++ ys) ≡ position_or_len p xs
position-stays p [] ys l = absurd (omega (arith, l))
position-stays {X} p (x ∷ xs) ys l = go (p x) refl l (λ h. position-stays p xs ys h)
  where
    go : (b : Bool) → p x ≡ b → cond (not b) (1 + position_or_len p xs) 0 < suc (length xs) → (position_or_len p xs < length xs → position_or_len p (xs ++ ys) ≡ position_or_len p xs) →
        cond (not b) (1 + position_or_len p (xs ++ ys)) 0 ≡ cond (not b) (1 + position_or_len p xs) 0
    go true e l f = refl
    go false e l f = ap (λ n. 1 + n) (f (omega (arith, l)))

longer : {X : Type 0} (xs ys : List X) (n : ℕ) → n < length xs → n < length (xs ++ ys)
longer [] ys n l = absurd (omega (arith, l))
longer (x ∷ xs) ys zero l = omega arith
longer (x ∷ xs) ys (suc n) l = let h = longer xs ys n (omega (arith, l)) in omega (arith, h)

step-stays : (table more : List PlaceStep) (s : PlaceStep) (n : ℕ) → IsStep table s n → IsStep (table ++ more) s n
step-stays table more s n h = record {
  index = h.index;
  first = position-stays (same_step s) table more (subst (λ k. k < length table) (sym h.first) h.there) ∙ h.first;
  there = longer table more h.index h.there;
  number = h.number;
}

pub place-stays : (table more : List PlaceStep) (above : ℕ) (steps : List PartStep) (n : ℕ) → IsPlace table above steps n → IsPlace (table ++ more) above steps n
place-stays table more above [] n h = h
place-stays table more above (s ∷ rest) n h =
    (h.0, step-stays table more (record { above = above; variant = s.variant; part = s.part }) h.0 h.1, place-stays table more h.0 rest n h.2)

-- the same steps lead to one place
pub one-place : (table : List PlaceStep) (above m n : ℕ) (steps : List PartStep) → IsPlace table above steps m → IsPlace table above steps n → m ≡ n
one-place table above m n [] g h = g ∙ sym h
one-place table above m n (s ∷ rest) g h =
    let same : h.0 ≡ g.0 = h.1.number ∙ ap suc (sym h.1.first ∙ g.1.first) ∙ sym g.1.number in
    one-place table g.0 m n rest g.2 (subst (λ k. IsPlace table k rest n) same h.2)

pub is-noted-stays : (table more : List PlaceStep) (arm : ℕ) (path : List ℕ) (above : ℕ) (f : RangeView) (s : Spot) → IsNoted table arm path above f s →
    IsNoted (table ++ more) arm path above f s
is-noted-stays table more arm path above f s h =
    record { arm_is = h.arm_is; path_is = h.path_is; at_is = h.at_is; range_is = h.range_is; place_is = place-stays table more above s.steps f.place h.place_is }

noted-stays : (table more : List PlaceStep) (arm : ℕ) (path : List ℕ) (above : ℕ) (fs : List RangeView) (spots : List Spot) → AreNoted table arm path above fs spots →
    AreNoted (table ++ more) arm path above fs spots
noted-stays table more arm path above [] [] h = tt
noted-stays table more arm path above [] (s ∷ spots) h = absurd h
noted-stays table more arm path above (f ∷ fs) [] h = absurd h
noted-stays table more arm path above (f ∷ fs) (s ∷ spots) h = (
  is-noted-stays table more arm path above f s h.0,
  noted-stays table more arm path above fs spots h.1,
)

noted-both : (table : List PlaceStep) (arm : ℕ) (path : List ℕ) (above : ℕ) (fs gs : List RangeView) (ss ts : List Spot) → AreNoted table arm path above fs ss →
    AreNoted table arm path above gs ts → AreNoted table arm path above (fs ++ gs) (ss ++ ts)
noted-both table arm path above [] gs [] ts g h = h
noted-both table arm path above [] gs (s ∷ ss) ts g h = absurd g
noted-both table arm path above (f ∷ fs) gs [] ts g h = absurd g
noted-both table arm path above (f ∷ fs) gs (s ∷ ss) ts g h = (g.0, noted-both table arm path above fs gs ss ts g.1 h)

-- nothing more is found
pub notes-none : (s : Finding) (above : ℕ) → Notes s s above []
notes-none s above =
    record { more = []; added = []; arm = refl; path = refl; table = sym (append-nil s.places.keys); found = sym (append-nil (range_views s)); noted = tt }

-- what is found after what was found
pub notes-then : (a b c : Finding) (above : ℕ) (ss ts : List Spot) → Notes a b above ss → Notes b c above ts → Notes a c above (ss ++ ts)
notes-then a b c above ss ts g h =
    let first = subst (λ table. AreNoted table a.arm a.path.items above g.added ss) (sym h.table) (noted-stays b.places.keys h.more a.arm a.path.items above g.added ss g.noted) in
    let second = subst (λ p. AreNoted c.places.keys a.arm p above h.added ts) g.path (subst (λ n. AreNoted c.places.keys n b.path.items above h.added ts) g.arm h.noted) in
    record {
      more = g.more ++ h.more;
      added = g.added ++ h.added;
      arm = h.arm ∙ g.arm;
      path = h.path ∙ g.path;
      table = h.table ∙ ap (λ xs. xs ++ h.more) g.table ∙ append_assoc a.places.keys g.more h.more;
      found = h.found ∙ ap (λ xs. xs ++ h.added) g.found ∙ append_assoc (range_views a) g.added h.added;
      noted = noted-both c.places.keys a.arm a.path.items above g.added h.added ss ts first second;
    }

-- one range was noted
pub notes-one : (a b : Finding) (f : FoundRange) → b.arm ≡ a.arm → b.path.items ≡ a.path.items → b.places.keys ≡ a.places.keys →
    b.found.items ≡ a.found.items ++ f ∷ [] → f.arm ≡ a.arm → f.path.items ≡ a.path.items → Notes a b f.place (own_spot f.at (Some (plain_range f.range)))
notes-one a b f arm path table found own-arm own-path =
    record {
      more = [];
      added = range_view f ∷ [];
      arm = arm;
      path = path;
      table = table ∙ sym (append-nil a.places.keys);
      found = ap (map range_view) found ∙ map-append range_view a.found.items (f ∷ []);
      noted = (record { arm_is = own-arm; path_is = own-path ∙ sym (append-nil a.path.items); at_is = refl; range_is = refl; place_is = refl }, tt);
    }

no-or : (c : MCtor) (i : ℕ) (steps : List PartStep) → ¬ (c ≡ OrCtor) → steps_below c i steps ≡ step_in c i ∷ steps
no-or OrCtor i steps e = absurd (e refl)
no-or _ i steps e = refl

-- a step to a part that is no alternative
pub opens-step : (a b : Finding) (above : ℕ) (c : MCtor) (i n : ℕ) (variant part : ℕ) → ¬ (c ≡ OrCtor) →
    record { variant = variant; part = part } ≡ step_in c i → Steps a b (record { above = above; variant = variant; part = part }) n → Opens a b above c i n
opens-step a b above c i n variant part plain step h = record {
  grows = h.grows;
  leads = λ table more steps m e place.
      let first : IsStep table (record { above = above; variant = variant; part = part }) n =
      subst (λ t. IsStep t (record { above = above; variant = variant; part = part }) n) (sym e) (step-stays b.places.keys more (record { above = above; variant = variant; part = part }) n h.is) in
      let moved : IsPlace table above (record { variant = variant; part = part } ∷ steps) m = (n, first, place) in
      subst (λ xs. IsPlace table above xs m) (ap (λ s. s ∷ steps) step ∙ sym (no-or c i steps plain)) moved;
}

-- alternatives stand where their or-pattern does
pub opens-or : (a : Finding) (above : ℕ) (c : MCtor) (i : ℕ) → c ≡ OrCtor → Opens a a above c i above
opens-or a above c i e = record {
  grows = record { more = []; table = sym (append-nil a.places.keys); found = refl; arm = refl; path = refl };
  leads = λ table more steps m f place. subst (λ d. IsPlace table above (steps_below d i steps) m) (sym e) place;
}

-- ---- what is found below a constructor

noted-below : (table : List PlaceStep) (arm : ℕ) (path : List ℕ) (above n : ℕ) (c : MCtor) (i : ℕ) (fs : List RangeView) (spots : List Spot) →
    ((steps : List PartStep) (m : ℕ) → IsPlace table n steps m → IsPlace table above (steps_below c i steps) m) →
    AreNoted table arm (path ++ i ∷ []) n fs spots → AreNoted table arm path above fs (map (spot_below c i) spots)
noted-below table arm path above n c i [] [] leads h = tt
noted-below table arm path above n c i [] (s ∷ spots) leads h = absurd h
noted-below table arm path above n c i (f ∷ fs) [] leads h = absurd h
noted-below table arm path above n c i (f ∷ fs) (s ∷ spots) leads h = (
  record {
    arm_is = h.0.arm_is;
    path_is = h.0.path_is ∙ append_assoc path (i ∷ []) s.path;
    at_is = h.0.at_is;
    range_is = h.0.range_is;
    place_is = leads s.steps f.place h.0.place_is;
  },
  noted-below table arm path above n c i fs spots leads h.1,
)

pub all-but-last : (xs : List ℕ) (x : ℕ) → take (length (xs ++ x ∷ []) - 1) (xs ++ x ∷ []) ≡ xs
all-but-last xs x =
    let e : length xs ≡ length (xs ++ x ∷ []) - 1 = omega (arith, length_push xs x) in
    take_at xs (x ∷ []) (length (xs ++ x ∷ []) - 1) e

-- the search went to the pattern with the number `i` below a constructor, and back
pub notes-below : (a opened pushed inner b : Finding) (above : ℕ) (c : MCtor) (i n : ℕ) (spots : List Spot) → Opens a opened above c i n →
    pushed.places.keys ≡ opened.places.keys → pushed.found.items ≡ opened.found.items → pushed.arm ≡ opened.arm → pushed.path.items ≡ opened.path.items ++ i ∷ [] →
    Notes pushed inner n spots → b.places.keys ≡ inner.places.keys → b.found.items ≡ inner.found.items → b.arm ≡ inner.arm →
    b.path.items ≡ take (vec_len inner.path - 1) inner.path.items → Notes a b above (map (spot_below c i) spots)
notes-below a opened pushed inner b above c i n spots o table found arm path notes table' found' arm' path' =
    let start : pushed.path.items ≡ a.path.items ++ i ∷ [] = path ∙ ap (λ xs. xs ++ i ∷ []) o.grows.path in
    let whole : inner.path.items ≡ a.path.items ++ i ∷ [] = notes.path ∙ start in
    let keys : b.places.keys ≡ opened.places.keys ++ notes.more = table' ∙ notes.table ∙ ap (λ xs. xs ++ notes.more) table in
    let arms : pushed.arm ≡ a.arm = arm ∙ o.grows.arm in
    let noted = subst (λ p. AreNoted inner.places.keys a.arm p n notes.added spots) start (subst (λ k. AreNoted inner.places.keys k pushed.path.items n notes.added spots) arms notes.noted) in
    record {
      more = o.grows.more ++ notes.more;
      added = notes.added;
      arm = arm' ∙ notes.arm ∙ arms;
      path = path' ∙ ap (λ n. take (n - 1) inner.path.items) inner.path.ok.0 ∙ ap (λ xs. take (length xs - 1) xs) whole ∙ all-but-last a.path.items i;
      table = keys ∙ ap (λ xs. xs ++ notes.more) o.grows.table ∙ append_assoc a.places.keys o.grows.more notes.more;
      found = ap (map range_view) found' ∙ notes.found ∙ ap (λ xs. xs ++ notes.added) (ap (map range_view) (found ∙ o.grows.found));
      noted = noted-below b.places.keys a.arm a.path.items above n c i notes.added spots (λ steps m h. o.leads b.places.keys notes.more steps m keys h)
          (subst (λ t. AreNoted t a.arm (a.path.items ++ i ∷ []) n notes.added spots) (sym table') noted);
    }
