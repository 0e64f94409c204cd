-- What is told by the types of a table is what is shown of the function.
use Rattle.std.proofs.Common.{◌≡◌, ◌∙◌, ◌⊎◌, ℕ, zero, suc, Bool, true, false, List, [], ◌∷◌, ◌++◌, map, length, Option, Some, None, inl, inr, refl, sym, ap, subst}
use Rattle.std.specs.List.{Contains, find}
use Rattle.std.specs.Option.{option_or}
use Rattle.std.specs.Prelude.{option_map, slice_get, if◌then◌else◌}
use Rattle.std.proofs.lemmas.List.Folds.{find-append}
use Rattle.std.proofs.lemmas.Option.{slice_get_within, get_or_from_slice_get}
use Rattle.bound_types.specs.Types.{bound_type, binds_name, has_name, patterns_in, patterns_in_all}
use Rattle.decl_syntax.specs.Functions.{FunctionTree}
use Rattle.decl_syntax.specs.Items.{ArmTree, ItemTree}
use Rattle.match_model.specs.ArenaPatterns.{MDeArm, MDeMatch, MDePat, de_pat, MDePats, no_de_pats, more_de_pats, type_of}
use Rattle.match_model.specs.Constructors.{MCtor}
use Rattle.match_model.specs.Declarations.{MProgram}
use Rattle.match_model.specs.Lists.{Every}
use Rattle.match_model.specs.RustTypes.{type_or}
use Rattle.match_model.specs.Select.{Asked, Outcome, Took, Missed, Short, Selected}
use Rattle.match_model.specs.Types.{MType}
use Rattle.match_model.specs.Ways.{Binding}
use Rattle.pattern_rules.specs.ArenaForms.{all_within, all_below}
use Rattle.pattern_rules.specs.Faults.{scrutinee_type}
use Rattle.pattern_rules.specs.Settings.{program}
use Rattle.pattern_rules.specs.Shown.{settled, settled_all, shown, uid_under}
use Rattle.pattern_rules.specs.ShownMatches.{elaborated_arm}
use Rattle.type_table.specs.declared.table.TyId.{TyId}
use Rattle.type_table.specs.Tables.{IsOf, table_program, table_type}
use Rattle.value_syntax.specs.Texts.{written_text}
use Rattle.verdict_json.specs.OutcomeTrees.{HeldTree, AskedTree, EndingTree, ArmTaken}
use Rattle.witness_names.specs.NamedValues.{written_value}
use Rattle.match_top.specs.declared.source.Source.{Source}
use Rattle.match_top.specs.Outcomes.{type_in_arm, shown_binding, shown_asked, shown_ending, shown_outcome}
use Rattle.match_top.specs.Reporting.{setting_in, IsMatchOf}
use Rattle.match_top.specs.Telling.{number_or, told_type, type_told, AreNumbered, told_binding, told_asked, told_ending, told_outcome}

-- ---- the type of a name in a pattern and in what it shows

-- the types of the first patterns, where those of both agree
both_types : {T : Type 0} (type : T → MType) (o p : Option (MDePat MType)) (q r : Option (MDePat T))
    → option_map type_of o ≡ option_map type (option_map type_of q) → option_map type_of p ≡ option_map type (option_map type_of r)
    → option_map type_of (option_or o p) ≡ option_map type (option_map type_of (option_or q r))
both_types type None p None r e d = d
both_types type None p (Some q) r e d = absurd cc
both_types type (Some o) p None r e d = absurd cc
both_types type (Some o) p (Some q) r e d = e

-- what a pattern shows binds a name at the type that is shown
mutual
  bound_settled : {T : Type 0} (type : T → MType) (name : List ℕ) (uid : ℕ) (p : MDePat T)
      → option_map type_of (find (binds_name name) (patterns_in (settled type uid p))) ≡ option_map type (option_map type_of (find (binds_name name) (patterns_in p)))
  bound_settled type name uid (de_pat c t u at subs binds) = by (bound_settled_all type name c subs) (has_name name binds)
    where
      by : option_map type_of (find (binds_name name) (patterns_in_all (settled_all type c subs))) ≡ option_map type (option_map type_of (find (binds_name name) (patterns_in_all subs)))
          → (here : Bool) → option_map type_of (if here then Some (settled type uid (de_pat c t u at subs binds)) else find (binds_name name) (patterns_in_all (settled_all type c subs)))
          ≡ option_map type (option_map type_of (if here then Some (de_pat c t u at subs binds) else find (binds_name name) (patterns_in_all subs)))
      by below true = refl
      by below false = below

  bound_settled_all : {T : Type 0} (type : T → MType) (name : List ℕ) (c : MCtor) (ps : MDePats T)
      → option_map type_of (find (binds_name name) (patterns_in_all (settled_all type c ps))) ≡ option_map type (option_map type_of (find (binds_name name) (patterns_in_all ps)))
  bound_settled_all type name c no_de_pats = refl
  bound_settled_all {T} type name c (more_de_pats p ps) =
      ap (option_map type_of) (find-append (binds_name name) (patterns_in (settled type (uid_under c p) p)) (patterns_in_all (settled_all type c ps)))
      ∙ both_types type _ _ _ _ (bound_settled type name (uid_under c p) p) (bound_settled_all type name c ps)
      ∙ ap (λ (o : Option (MDePat T)). option_map type (option_map type_of o)) (sym (find-append (binds_name name) (patterns_in p) (patterns_in_all ps)))

-- ---- the types of names are the table's

-- the first that passes has what all have
every_found : {A : Type 0} (P : A → Type 0) (test : A → Bool) (xs : List A) (x : A) → Every P xs → find test xs ≡ Some x → P x
every_found P test [] x all found = absurd cc
every_found P test (y ∷ ys) x all found = by (λ e. every_found P test ys x all.1 e) (test y) found
  where
    by : (find test ys ≡ Some x → P x) → (here : Bool) → (if here then Some y else find test ys) ≡ Some x → P x
    by rest true e = let same : y ≡ x = cc in subst P same all.0
    by rest false e = rest e

mutual
  same_patterns : {T : Type 0} (p : MDePat T) → patterns_in p ≡ all_within p
  same_patterns (de_pat c t uid at subs binds) = ap (λ qs. de_pat c t uid at subs binds ∷ qs) (same_below subs)

  same_below : {T : Type 0} (ps : MDePats T) → patterns_in_all ps ≡ all_below ps
  same_below no_de_pats = refl
  same_below {T} (more_de_pats p ps) =
      ap (λ (qs : List (MDePat T)). qs ++ patterns_in_all ps) (same_patterns p) ∙ ap (λ (qs : List (MDePat T)). all_within p ++ qs) (same_below ps)

-- the type of a name has what the types of all patterns have
bound_has : {T : Type 0} (P : T → Type 0) (p : MDePat T) (name : List ℕ) (t : T) → Every (λ q. P (type_of q)) (all_within p) → bound_type p name ≡ Some t → P t
bound_has {T} P p name t all bound = by (find (binds_name name) (patterns_in p)) refl bound
  where
    by : (o : Option (MDePat T)) → find (binds_name name) (patterns_in p) ≡ o → option_map type_of o ≡ Some t → P t
    by None found e = absurd cc
    by (Some q) found e =
        let here : P (type_of q) = every_found (λ (r : MDePat T). P (type_of r)) (binds_name name) (patterns_in p) q (subst (λ (qs : List (MDePat T)). Every (λ r. P (type_of r)) qs) (sym (same_patterns p)) all) found in
        let same : type_of q ≡ t = cc in
        subst P same here

-- what stands at a number is among the things
contains_there : {A : Type 0} (xs : List A) (j : ℕ) (x : A) → slice_get xs j ≡ Some x → Contains xs x
contains_there xs j x there = (j, slice_get_within xs j x there, get_or_from_slice_get xs j x x there)

pub are_numbered : (x : Source) (items : List ItemTree) (f : FunctionTree) (m : MDeMatch TyId) → IsMatchOf x items f m → AreNumbered x.table.now m
are_numbered x items f m h j name = by (slice_get m.arms j) refl
  where
    of_arm : (d : MDeArm TyId) → Contains m.arms d → (o : Option TyId) → bound_type d.pat name ≡ o → IsOf x.table.now (number_or m.type o)
    of_arm d among None e = h.type_is
    of_arm d among (Some ty) e = bound_has (λ (t : TyId). IsOf x.table.now t) d.pat name ty (h.types d among) e

    by : (o : Option (MDeArm TyId)) → slice_get m.arms j ≡ o → IsOf x.table.now (told_type m o name)
    by None e = h.type_is
    by (Some d) e = of_arm d (contains_there m.arms j d e) (bound_type d.pat name) refl

-- ---- what is told is what is shown

-- lists of one length have something at the same numbers
both_there : {A B : Type 0} (xs : List A) (ys : List B) (j : ℕ) → length xs ≡ length ys
    → ((slice_get xs j ≡ None) × (slice_get ys j ≡ None)) ⊎ ((x : A) × (y : B) × (slice_get xs j ≡ Some x) × (slice_get ys j ≡ Some y))
both_there [] [] j same = inl (refl, refl)
both_there [] (y ∷ ys) j same = absurd cc
both_there (x ∷ xs) [] j same = absurd cc
both_there (x ∷ xs) (y ∷ ys) zero same = inr (x, y, refl, refl)
both_there (x ∷ xs) (y ∷ ys) (suc j) same = both_there xs ys j (next (length xs) (length ys) same)
  where
    next : (n m : ℕ) → suc n ≡ suc m → n ≡ m
    next n m e = cc

-- the match of a function, and the types of the table
module _ (x : Source) (items : List ItemTree) (f : FunctionTree) (m : MDeMatch TyId) (h : IsMatchOf x items f m) where
  of_type : (o : Option TyId) → table_type x.table.now (number_or m.type o) ≡ type_or (scrutinee_type (setting_in x items) f) (option_map (table_type x.table.now) o)
  of_type None = h.shown.type_is
  of_type (Some ty) = refl

  arm_type : (d : MDeArm TyId) (a : ArmTree) (name : List ℕ) → shown (table_type x.table.now) d.pat ≡ elaborated_arm (setting_in x items) f a
      → table_type x.table.now (told_type m (Some d) name) ≡ type_in_arm (setting_in x items) f (Some a) name
  arm_type d a name shows =
      of_type (bound_type d.pat name)
      ∙ ap (type_or (scrutinee_type (setting_in x items) f)) (sym (bound_settled (table_type x.table.now) name _ d.pat))
      ∙ ap (λ (p : MDePat MType). type_or (scrutinee_type (setting_in x items) f) (bound_type p name)) shows

  -- a name has the type of the table that it has in the arm
  type_shown : (j : ℕ) (name : List ℕ) → table_type x.table.now (type_told m j name) ≡ type_in_arm (setting_in x items) f (slice_get f.arms j) name
  type_shown j name = by (both_there m.arms f.arms j h.shown.count)
    where
      by : ((slice_get m.arms j ≡ None) × (slice_get f.arms j ≡ None)) ⊎ ((d : MDeArm TyId) × (a : ArmTree) × (slice_get m.arms j ≡ Some d) × (slice_get f.arms j ≡ Some a))
          → table_type x.table.now (type_told m j name) ≡ type_in_arm (setting_in x items) f (slice_get f.arms j) name
      by (inl none) =
          ap (λ (o : Option (MDeArm TyId)). table_type x.table.now (told_type m o name)) none.0
          ∙ h.shown.type_is
          ∙ ap (λ (o : Option ArmTree). type_in_arm (setting_in x items) f o name) (sym none.1)
      by (inr both) =
          ap (λ (o : Option (MDeArm TyId)). table_type x.table.now (told_type m o name)) both.2
          ∙ arm_type both.0 both.1 name (h.shown.arms j both.1 both.0 both.3 both.2).pattern
          ∙ ap (λ (o : Option ArmTree). type_in_arm (setting_in x items) f o name) (sym both.3)

  binding_shown : (j : ℕ) (b : Binding) → told_binding x.table.now (type_told m j b.name) b ≡ shown_binding (setting_in x items) f j b
  binding_shown j b =
      let program_is : table_program x.table.now ≡ program (setting_in x items) = h.table_is.program in
      ap (λ (p : MProgram). record {
        name = b.name;
        mode = b.mode;
        value = written_text (written_value p (table_type x.table.now (type_told m j b.name)) b.value);
      }) program_is
      ∙ ap (λ (t : MType). record { name = b.name; mode = b.mode; value = written_text (written_value (program (setting_in x items)) t b.value) }) (type_shown j b.name)

  bindings_shown : (j : ℕ) (bs : List Binding) → map (λ b. told_binding x.table.now (type_told m j b.name) b) bs ≡ map (shown_binding (setting_in x items) f j) bs
  bindings_shown j [] = refl
  bindings_shown j (b ∷ bs) =
      ap (λ (c : HeldTree). c ∷ map (λ b. told_binding x.table.now (type_told m j b.name) b) bs) (binding_shown j b)
      ∙ ap (λ (cs : List HeldTree). shown_binding (setting_in x items) f j b ∷ cs) (bindings_shown j bs)

  asked_shown : (gs : List Asked) → map (told_asked x.table.now m) gs ≡ map (shown_asked (setting_in x items) f) gs
  asked_shown [] = refl
  asked_shown (a ∷ gs) =
      ap (λ (cs : List HeldTree). record { arm = a.arm; bindings = cs } ∷ map (told_asked x.table.now m) gs) (bindings_shown a.arm a.bindings)
      ∙ ap (λ (cs : List AskedTree). shown_asked (setting_in x items) f a ∷ cs) (asked_shown gs)

  ending_shown : (o : Outcome) → told_ending x.table.now m o ≡ shown_ending (setting_in x items) f o
  ending_shown (Took arm bindings) = ap (ArmTaken arm) (bindings_shown arm bindings)
  ending_shown Missed = refl
  ending_shown Short = refl

  pub outcome_shown : (s : Selected) → told_outcome x.table.now m s ≡ shown_outcome (setting_in x items) f s
  outcome_shown s =
      ap (λ (gs : List AskedTree). record { asked = gs; ending = told_ending x.table.now m s.outcome }) (asked_shown s.asked)
      ∙ ap (λ (e : EndingTree). record { asked = map (shown_asked (setting_in x items) f) s.asked; ending = e }) (ending_shown s.outcome)
