-- Names of fields that are among others, and what a path finds.
use Rattle.std.proofs.Common.{◌≡◌, ℕ, zero, suc, IfOk, Result, Ok, Err, ◌+◌, ◌<◌, ◌≤◌, add-one, Bool, true, false, not, ◌&&◌, ◌||◌, List, [], ◌∷◌, map, length, drop, get_or, Option, Some, None, refl, sym, ap, ◌∙◌, rules, arith}
use Rattle.std.specs.Rc.{rc_str_bytes}
use Rattle.std.specs.Prelude.{position, is_none, is_some, option_map, nat_le}
use Rattle.std.specs.Str.{bytes_eq}
use Rattle.std.proofs.Math.Seq.{drop-cons}
use Rattle.std.proofs.lemmas.Bool.Decides.{nat_tests}
use Rattle.list_members.specs.Members.{are_among}
use Rattle.decl_syntax.specs.declared.tree.FieldPat.{FieldPat}
use Rattle.decl_syntax.specs.declared.tree.PatKind.{the_lemmas}
use Rattle.decl_syntax.specs.Patterns.{PathTree, PatternTrees, field_view, fields_from}
use Rattle.decl_syntax.specs.Items.{ItemTree}
use Rattle.type_names.specs.NameRules.{is_among}
use Rattle.type_names.specs.Finding.{FoundTree, FoundNothing, FoundTwice, FoundStruct, FoundVariant, path_finds, found_form, is_found}
use Rattle.type_names.proofs.Places.{position_hit, position_skip}
use Rattle.type_names.proofs.FormLemmas.{target_has}
use Rattle.pattern_rules.specs.Settings.{Setting}
use Rattle.pattern_rules.specs.Namings.{found_if, is_tuple_form, fields_found}
use Rattle.pattern_rules.specs.NodeRules.{written_names, some_absent, rest_count, has_other_count, misfits_form}

-- a name that is at no place is not among the names
pub absent_is : (name : List ℕ) (names : List (List ℕ)) → is_none (position (λ n. bytes_eq name n) names) ≡ not (is_among name names)
absent_is name [] = refl
absent_is name (n ∷ ns) = by (bytes_eq name n) refl (absent_is name ns)
  where
    later : (o : Option ℕ) → is_none (option_map {U = ℕ} suc o) ≡ is_none o
    later None = refl
    later (Some k) = refl

    by : (b : Bool) → bytes_eq name n ≡ b → is_none (position (λ m. bytes_eq name m) ns) ≡ not (is_among name ns) →
        is_none (position (λ m. bytes_eq name m) (n ∷ ns)) ≡ not (is_among name (n ∷ ns))
    by true e ih =
        let among : false ≡ not (is_among name (n ∷ ns)) = rw e refl in
        ap (λ (o : Option ℕ). is_none o) (position_hit (λ m. bytes_eq name m) n ns e) ∙ among
    by false e ih =
        let among : not (is_among name ns) ≡ not (is_among name (n ∷ ns)) = rw e refl in
        ap (λ (o : Option ℕ). is_none o) (position_skip (λ m. bytes_eq name m) n ns e) ∙ (later (position (λ m. bytes_eq name m) ns) ∙ (ih ∙ among))

name_of_view : (f : FieldPat) → (field_view f).name ≡ rc_str_bytes f.name
name_of_view f = search (rules, the_lemmas)

-- the names of these fields
abbrev pub names_of : List FieldPat → List (List ℕ)
names_of fs = written_names (fields_from (map field_view fs))

-- whether one of the fields from here on is absent
pub absent_from : (those : List (List ℕ)) (fs : List FieldPat) (i : ℕ) (f : FieldPat) → i < length fs → f ≡ get_or fs i f →
    some_absent (names_of (drop i fs)) those ≡ (not (is_among (rc_str_bytes f.name) those) || some_absent (names_of (drop (i + 1) fs)) those)
absent_from those fs i f lt e = rw (drop-cons fs i f, add-one, ← e, name_of_view f) refl

pub not_not : (b : Bool) → not (not b) ≡ b
not_not true = refl
not_not false = refl

-- behind all items there is none
pub drop_past : {A : Type 0} (xs : List A) (i : ℕ) → length xs ≤ i → drop i xs ≡ []
drop_past [] zero le = refl
drop_past [] (suc i) le = refl
drop_past (x ∷ xs) zero le = absurd (omega arith)
drop_past (x ∷ xs) (suc i) le = drop_past xs i (omega arith)

-- what holds of an answer, where it is there, by what else does
pub if_ok : {A E : Type 0} (r : Result A E) (P Q : A → Type 0) → ((x : A) → P x → Q x) → IfOk r P → IfOk r Q
if_ok (Ok x) P Q f h = f x h
if_ok (Err e) P Q f h = tt

-- the same where it is known under a condition
pub if_under : {A E : Type 0} (r : Result A E) (C : Type 0) (P Q : A → Type 0) → ((x : A) → (C → P x) → Q x) → (C → IfOk r P) → IfOk r Q
if_under (Ok x) C P Q f h = f x h
if_under (Err e) C P Q f h = tt

-- some name is absent where not all are among the others
pub absent_among : (names those : List (List ℕ)) → some_absent names those ≡ not (are_among bytes_eq names those)
absent_among [] those = refl
absent_among (n ∷ ns) those = by (is_among n those) refl (absent_among ns those)
  where
    by : (b : Bool) → is_among n those ≡ b → some_absent ns those ≡ not (are_among bytes_eq ns those) → some_absent (n ∷ ns) those ≡ not (are_among bytes_eq (n ∷ ns) those)
    by true e ih = rw e ih
    by false e ih = rw e refl

-- what a path finds is there
pub path_there : (items : List ItemTree) (path : PathTree) (short : Bool) → true ≡ is_found (found_if short (path_finds items path)) →
    is_some (found_form items (found_if short (path_finds items path))) ≡ true
path_there items path true e = target_has items path (path_finds items path) (found_form items (path_finds items path)) refl refl ∙ sym e
path_there items path false e = absurd cc

-- what has a form was found
pub form_found : (items : List ItemTree) (told : FoundTree) → is_some (found_form items told) ≡ true → is_found told ≡ true
form_found items FoundNothing h = absurd cc
form_found items FoundTwice h = absurd cc
form_found items (FoundStruct i) h = refl
form_found items (FoundVariant o k) h = refl

-- a tuple form with two rests is not refused for its count
pub misfits_many : (s : Setting) (told : FoundTree) (ps : PatternTrees) (n : ℕ) → n ≡ rest_count ps → 1 < n → false ≡ misfits_form s told ps
misfits_many s told ps n e lt =
    let many : nat_le n 1 ≡ false = grind (arith, nat_tests) in
    rw (← e, many) (no (is_found told))
  where
    no : (b : Bool) → false ≡ (b && false)
    no true = refl
    no false = refl

-- one with at most one rest is
pub misfits_few : (s : Setting) (told : FoundTree) (ps : PatternTrees) (n : ℕ) → n ≡ rest_count ps → n ≤ 1 → is_found told ≡ true →
    (not (is_tuple_form (found_form s.items told)) || has_other_count ps (fields_found s.items told)) ≡ misfits_form s told ps
misfits_few s told ps n e le f =
    let few : nat_le (rest_count ps) 1 ≡ true = let h : nat_le n 1 ≡ true = grind (arith, nat_tests) in rw (← e) h in
    rw (f, few) refl
