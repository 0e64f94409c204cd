-- The numbers of written fields: they are those of parts, and none stands twice.
use Rattle.std.proofs.Common.{◌≡◌, ℕ, zero, suc, ◌+◌, ◌-◌, ◌<◌, ◌≤◌, Bool, true, false, not, List, [], ◌∷◌, ◌++◌, length, map, Option, Some, None, slice_get, nat_lt, nat_eq, refl, sym, ap, ◌∙◌, arith, if◌then◌else◌, get_or}
use Rattle.std.proofs.lemmas.Bool.Decides.{nat_tests}
use Rattle.std.specs.List.{list_all, list_any}
use Rattle.std.specs.Str.{bytes_eq}
use Rattle.std.specs.Prelude.{position, option_map}
use Rattle.std.proofs.lemmas.Slice.Eq.{bytes_eq-Decides}
use Rattle.std.proofs.lemmas.List.Quantifiers.{position-Some}
use Rattle.std.proofs.lemmas.Option.{slice_get-get_or}
use Rattle.match_model.specs.Types.{MType}
use Rattle.match_model.specs.Patterns.{more_numbered, numbers_in, all_differ}
use Rattle.match_model.specs.Matching.{are_parts}
use Rattle.list_members.specs.Members as members
use Rattle.decl_syntax.specs.Patterns.{PatternTrees, none, more, FieldTrees, no_field, and_field}
use Rattle.decl_syntax.specs.Widths.{pattern_count}
use Rattle.type_names.specs.NameRules.{is_among}
use Rattle.type_names.specs.Meanings.{is_name}
use Rattle.type_names.proofs.Places.{position_hit, position_skip}
use Rattle.pattern_rules.specs.Settings.{Setting}
use Rattle.pattern_rules.specs.Namings.{field_number}
use Rattle.pattern_rules.specs.Nodes.{is_rest}
use Rattle.pattern_rules.specs.NodeRules.{rest_count, has_other_count, has_rests, written_names, some_absent}
use Rattle.pattern_rules.specs.Resolved.{resolved, form_parts, form_fields}
use Rattle.pattern_laws.proofs.FineNodes.{either_left, either_right, none_passes}

-- the numbers ascend from the first on, below the second
abbrev pub AscendFrom : (i n : ℕ) → List ℕ → Type 0
AscendFrom i n [] = Unit {0}
AscendFrom i n (m ∷ ms) = (i ≤ m) × (m < n) × AscendFrom (suc m) n ms

all_below : (i n : ℕ) (ms : List ℕ) → AscendFrom i n ms → list_all (λ m. nat_lt m n) ms ≡ true
all_below i n [] h = refl
all_below i n (m ∷ ms) h =
    let first : nat_lt m n ≡ true = grind (arith, nat_tests, h.1) in
    rw (first, all_below (suc m) n ms h.2) refl

none_of_them : (i n k : ℕ) (ms : List ℕ) → k < i → AscendFrom i n ms → list_any (nat_eq k) ms ≡ false
none_of_them i n k [] lt h = refl
none_of_them i n k (m ∷ ms) lt h =
    let first : nat_eq k m ≡ false = grind (arith, nat_tests, lt, h.0) in
    rw (first, none_of_them (suc m) n k ms (omega (arith, lt, h.0)) h.2) refl

they_differ : (i n : ℕ) (ms : List ℕ) → AscendFrom i n ms → all_differ ms ≡ true
they_differ i n [] h = refl
they_differ i n (m ∷ ms) h = rw (none_of_them (suc m) n m ms (omega arith) h.2, they_differ (suc m) n ms h.2) refl

pub ascend_parts : (i n : ℕ) (ms : List ℕ) → AscendFrom i n ms → are_parts ms n ≡ true
ascend_parts i n ms h = rw (they_differ i n ms h, all_below i n ms h) refl

from_later : (i j n : ℕ) (ms : List ℕ) → i ≤ j → AscendFrom j n ms → AscendFrom i n ms
from_later i j n [] le h = tt
from_later i j n (m ∷ ms) le h = (omega (arith, le, h.0), h.1, h.2)

-- a list with at most one rest fits so many parts
pub record RoomFor (parts i : ℕ) (ps : PatternTrees) : Type 0 where
  pub few : rest_count ps ≤ 1
  pub room : i + pattern_count ps ≤ parts + rest_count ps

-- the fields of a tuple form ascend
pub form_parts_ascend : (s : Setting) (types : ℕ → MType) (parts i : ℕ) (ps : PatternTrees) → RoomFor parts i ps →
    AscendFrom i parts (numbers_in (form_parts s types parts i ps))
form_parts_ascend s types parts i none h = tt
form_parts_ascend s types parts i (more p ps) h =
    go (is_rest p) refl h.few h.room
    (λ j few room. form_parts_ascend s types parts j ps (record { few = few; room = room }))
  where
    go : (b : Bool) → is_rest p ≡ b → (if b then 1 else 0) + rest_count ps ≤ 1 → i + suc (pattern_count ps) ≤ parts +
        ((if b then 1 else 0) + rest_count ps) →
        ((j : ℕ) → rest_count ps ≤ 1 → j + pattern_count ps ≤ parts + rest_count ps →
        AscendFrom j parts (numbers_in (form_parts s types parts j ps))) →
        AscendFrom i parts (numbers_in
        (if b then form_parts s types parts (if b then parts - pattern_count ps else suc i) ps
        else more_numbered i (resolved s (types i) p)
        (form_parts s types parts (if b then parts - pattern_count ps else suc i) ps)))
    go true e few room rest =
        from_later i (parts - pattern_count ps) parts
        (numbers_in (form_parts s types parts (parts - pattern_count ps) ps)) (omega (arith, few, room))
        (rest (parts - pattern_count ps) (omega (arith, few)) (omega (arith, few, room)))
    go false e few room rest = (
      omega arith,
      room_here few room (rest_fits ps),
      rest (suc i) (omega (arith, few))
          (omega (arith, room)),
    )
      where
        rest_fits : (qs : PatternTrees) → rest_count qs ≤ pattern_count qs
        rest_fits none = omega arith
        rest_fits (more q qs) = one (is_rest q) (rest_fits qs)
          where
            one : (c : Bool) → rest_count qs ≤ pattern_count qs → (if c then 1 else 0) + rest_count qs ≤ suc
                (pattern_count qs)
            one true le = omega (arith, le)
            one false le = omega (arith, le)

        room_here : 0 + rest_count ps ≤ 1 → i + suc (pattern_count ps) ≤ parts + (0 + rest_count ps) →
            rest_count ps ≤ pattern_count ps → i < parts
        room_here few room le = omega (arith, few, room, le)

pub untwice : (b : Bool) → not b ≡ false → b ≡ true
untwice true h = refl
untwice false h = cc

-- a list that does not have another count, nor two rests, fits
pub room_for : (ps : PatternTrees) (parts : ℕ) → has_rests ps ≡ false → has_other_count ps parts ≡ false →
    RoomFor parts 0 ps
room_for ps parts h k = record { few = few; room = room }
  where
    few : rest_count ps ≤ 1
    few = grind (arith, nat_tests, h)

    room : 0 + pattern_count ps ≤ parts + rest_count ps
    room = by (rest_count ps) few refl
      where
        by : (n : ℕ) → n ≤ 1 → rest_count ps ≡ n → 0 + pattern_count ps ≤ parts + rest_count ps
        by zero le e =
            let same : nat_eq (pattern_count ps) parts ≡ true = untwice (nat_eq (pattern_count ps) parts)
            (either_left (not (nat_eq (pattern_count ps) parts)) false (rw e at k)) in
            grind (arith, nat_tests, e, same)
        by (suc zero) le e = let fits : nat_lt (suc parts) (pattern_count ps) ≡ false = rw e at k in grind
            (arith, nat_tests, e, fits)
        by (suc (suc n)) le e = absurd (omega (arith, le))

some_none : (k : ℕ) → ◌≡◌ {A = Option ℕ} (Some k) None → ⊥
some_none k e = cc

-- the first place of what is there
no_place : {A : Type 0} (p : A → Bool) (xs : List A) → position p xs ≡ None → list_any p xs ≡ false
no_place p [] h = refl
no_place p (x ∷ xs) h = by (p x) refl (no_place p xs)
  where
    no_suc : (o : Option ℕ) → option_map suc o ≡ None → o ≡ None
    no_suc None e = refl
    no_suc (Some k) e = cc

    by : (b : Bool) → p x ≡ b → (position p xs ≡ None → list_any p xs ≡ false) → list_any p (x ∷ xs) ≡ false
    by true e rest = absurd (some_none 0 (sym (position_hit p x xs e) ∙ h))
    by false e rest = rw e (rest (no_suc (position p xs) (sym (position_skip p x xs e) ∙ h)))

-- the field of a name that is there
pub field_there : (names : List (List ℕ)) (name : List ℕ) → is_among name names ≡ true →
    (field_number names name < length names) × (slice_get names (field_number names name) ≡ Some name)
field_there names name h = go (position (λ n. is_name name (Some n)) names) refl
  where
    go : (o : Option ℕ) → position (λ n. is_name name (Some n)) names ≡ o → (field_number names name < length names)
        × (slice_get names (field_number names name) ≡ Some name)
    go None e = let no : is_among name names ≡ false = no_place (λ n. is_name name (Some n)) names e in absurd cc
    go (Some k) e =
        let at = position-Some (λ n. is_name name (Some n)) names k name e in
        let same : name ≡ get_or names k name = (bytes_eq-Decides name (get_or names k name)).0 at.1 in
        rw e (at.0, slice_get-get_or names k name at.0 ∙ ap (λ (n : List ℕ). Some n) (sym same))

-- the numbers of the fields of a brace form
pub fields_numbers : (s : Setting) (types : ℕ → MType) (names : List (List ℕ)) (fs : FieldTrees) →
    numbers_in (form_fields s types names fs) ≡ map (field_number names) (written_names fs)
fields_numbers s types names no_field = refl
fields_numbers s types names (and_field name short attrs p fs) = ap (λ ns. field_number names name ∷ ns)
    (fields_numbers s types names fs)

append_at : {A : Type 0} (xs ys : List A) (k : ℕ) (x : A) → slice_get xs k ≡ Some x → slice_get (xs ++ ys) k ≡ Some x
append_at [] ys k x e = cc
append_at (y ∷ xs) ys zero x e = e
append_at (y ∷ xs) ys (suc k) x e = append_at xs ys k x e

last_at : {A : Type 0} (xs : List A) (x : A) → slice_get (xs ++ x ∷ []) (length xs) ≡ Some x
last_at [] x = refl
last_at (y ∷ xs) x = last_at xs x

-- none of the names is one of those before
not_before : (before ws : List (List ℕ)) (k : ℕ) (y : List ℕ) → slice_get before k ≡ Some y →
    members.repeats bytes_eq before ws ≡ false → list_any (λ x. bytes_eq x y) ws ≡ false
not_before before [] k y e h = refl
not_before before (w ∷ ws) k y e h =
    let first : bytes_eq w y ≡ false = none_passes (bytes_eq w) before k y e
    (either_left (list_any (bytes_eq w) before) (members.repeats bytes_eq (before ++ w ∷ []) ws) h) in
    rw (
      first,
      not_before (before ++ w ∷ []) ws k y (append_at before (w ∷ []) k y e)
          (either_right (list_any (bytes_eq w) before) (members.repeats bytes_eq (before ++ w ∷ []) ws) h),
    ) refl

-- all of the names are among those
abbrev AllAmong : List (List ℕ) → List (List ℕ) → Type 0
AllAmong names [] = Unit {0}
AllAmong names (w ∷ ws) = (is_among w names ≡ true) × AllAmong names ws

all_among : (names ws : List (List ℕ)) → some_absent ws names ≡ false → AllAmong names ws
all_among names [] h = tt
all_among names (w ∷ ws) h = (
  untwice (is_among w names) (either_left (not (is_among w names)) (some_absent ws names) h),
  all_among names ws
      (either_right (not (is_among w names)) (some_absent ws names) h),
)

-- different names have different numbers
other_number : (names ws : List (List ℕ)) (w : List ℕ) → is_among w names ≡ true → AllAmong names ws →
    list_any (λ x. bytes_eq x w) ws ≡ false →
    list_any (nat_eq (field_number names w)) (map (field_number names) ws) ≡ false
other_number names [] w a all h = refl
other_number names (x ∷ ws) w a all h = rw (
  by (nat_eq (field_number names w) (field_number names x)) refl,
  other_number names ws w a all.1 (either_right (bytes_eq x w) (list_any (λ y. bytes_eq y w) ws) h),
) refl
  where
    by : (b : Bool) → nat_eq (field_number names w) (field_number names x) ≡ b → nat_eq (field_number names w)
        (field_number names x) ≡ false
    by false e = e
    by true e =
        let same : field_number names x ≡ field_number names w = grind (arith, nat_tests, e) in
        let there : Some x ≡ Some w = sym (field_there names x all.0).1
        ∙ (ap (slice_get names) same ∙ (field_there names w a).1) in
        let equal : x ≡ w = cc in
        let clash : bytes_eq x w ≡ true = (bytes_eq-Decides x w).1 equal in
        let no : bytes_eq x w ≡ false = either_left (bytes_eq x w) (list_any (λ y. bytes_eq y w) ws) h in
        absurd cc

fields_differ : (names before ws : List (List ℕ)) → AllAmong names ws → members.repeats bytes_eq before ws ≡ false →
    all_differ (map (field_number names) ws) ≡ true
fields_differ names before [] all h = refl
fields_differ names before (w ∷ ws) all h =
    let rest : members.repeats bytes_eq (before ++ w ∷ []) ws ≡ false = either_right (list_any (bytes_eq w) before)
    (members.repeats bytes_eq (before ++ w ∷ []) ws) h in
    rw (
      other_number names ws w all.0 all.1
          (not_before (before ++ w ∷ []) ws (length before) w (last_at before w) rest),
      fields_differ names
          (before ++ w ∷ []) ws all.1 rest,
    ) refl

fields_below : (names ws : List (List ℕ)) → AllAmong names ws → list_all (λ m. nat_lt m (length names))
    (map (field_number names) ws) ≡ true
fields_below names [] all = refl
fields_below names (w ∷ ws) all =
    let lt : field_number names w < length names = (field_there names w all.0).0 in
    let first : nat_lt (field_number names w) (length names) ≡ true = grind (arith, nat_tests, lt) in
    rw (first, fields_below names ws all.1) refl

-- the numbers of a brace form's fields are those of parts
pub field_parts : (s : Setting) (types : ℕ → MType) (names : List (List ℕ)) (fs : FieldTrees) →
    some_absent (written_names fs) names ≡ false →
    members.repeats bytes_eq [] (written_names fs) ≡ false → are_parts (numbers_in (form_fields s types names fs))
    (length names) ≡ true
field_parts s types names fs h k =
    let all = all_among names (written_names fs) h in
    rw (
      fields_numbers s types names fs,
      fields_differ names [] (written_names fs) all k,
      fields_below names
          (written_names fs) all,
    ) refl
