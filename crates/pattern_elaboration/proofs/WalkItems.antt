-- The items of a tuple, slice or array in a walk, one by one.
use Rattle.std.proofs.Common.{◌≡◌, ℕ, suc, ◌+◌, ◌-◌, ◌<◌, ◌≤◌, Bool, true, false, List, [], ◌∷◌, ◌++◌, length, drop, get_or, refl, sym, ap, subst, ◌∙◌, append_assoc, arith, if◌then◌else◌}
use Rattle.std.proofs.lemmas.List.{append-nil}
use Rattle.std.proofs.lemmas.Bool.Decides.{nat_tests}
use Rattle.match_model.specs.declared.Mode.{Mode}
use Rattle.match_model.specs.Types.{MType}
use Rattle.match_model.specs.ArenaPatterns.{MDePat, de_pats_of, type_of}
use Rattle.match_model.specs.Lists.{Every}
use Rattle.match_model.specs.WellTyped.{uids_in_all}
use Rattle.decl_syntax.specs.declared.tree.Pat.{Pat}
use Rattle.decl_syntax.specs.Patterns.{PatternTrees, none, more, pattern_view}
use Rattle.decl_syntax.specs.Widths.{pattern_count}
use Rattle.pattern_arena.specs.declared.pattern.DePat.{DePat}
use Rattle.pattern_arena.specs.Trees.{tree}
use Rattle.type_table.specs.declared.table.TyId.{TyId}
use Rattle.type_table.specs.declared.table.TypeTable.{TypeTable}
use Rattle.type_table.specs.Tables.{IsOf, table_program, table_type}
use Rattle.pattern_rules.specs.ArenaForms.{all_below}
use Rattle.pattern_rules.specs.Settings.{Setting}
use Rattle.pattern_rules.specs.Nodes.{is_rest, part_behind}
use Rattle.pattern_rules.specs.NodeRules.{rest_count, has_rests}
use Rattle.pattern_rules.specs.Builders.{Built}
use Rattle.pattern_elaboration.specs.Checking.{IsSettingOf}
use Rattle.pattern_elaboration.specs.Fitting.{PartsFit}
use Rattle.pattern_elaboration.specs.Given.{trees, given}
use Rattle.pattern_elaboration.specs.Numbered.{times, once_within, IsMade, AreMade}
use Rattle.pattern_elaboration.specs.Walking.{plain, PatternShown, item_types, item_count}
use Rattle.pattern_elaboration.specs.Written.{built, built_front, built_back}
use Rattle.pattern_elaboration.proofs.Numbering.{times_both, uids_both, below_both, every_both, made_one, made_more}
use Rattle.pattern_elaboration.proofs.WalkLists.{one_more, shown_at, given_more, trees_more, left_count, pattern_count-map}
use Rattle.pattern_elaboration.proofs.Walks.{list_of, from_here}

-- the items of a list: these are made up to the rest, and behind it, and those are left; `behind` says that the rest
-- is passed
abbrev pub ItemsLeft : TypeTable → MType → Mode → (all : PatternTrees) → (behind : Bool) → (number : ℕ) →
    (left : PatternTrees) → (front back : List (DePat TyId)) → Type 0
ItemsLeft table t m all behind number left front back =
    (s : Setting) (types : ℕ → MType) (parts : ℕ) → IsSettingOf table s →
    ((i : ℕ) → item_types (table_program table) t i ≡ types i) →
    item_count (table_program table) t (pattern_count all) ≡ parts → has_rests all ≡ false → PartsFit s types parts 0
    all →
    ((if behind then 1 else 0) + rest_count left ≤ 1) × PartsFit s types parts number left
    × (given (table_type table) front ++ (if behind then [] else built_front s types number m left) ≡ built_front s
    types 0 m all)
    × (given (table_type table) back ++ (if behind then built_front s types number m left else built_back s types
    parts m left) ≡ built_back s types parts m all)

few : (ps : PatternTrees) → has_rests ps ≡ false → 0 + rest_count ps ≤ 1
few ps h = grind (arith, nat_tests)

-- at the start all are left
pub items_none : (table : TypeTable) (t : MType) (m : Mode) (all : PatternTrees) → ItemsLeft table t m all false 0 all
    [] []
items_none table t m all s types parts is same count once fit = (few all once, fit, refl, refl)

module _ (table : TypeTable) (t : MType) (m : Mode) (all : List Pat) (i number following left : ℕ) (p : Pat)
    (lt : i < length all) (at : p ≡ get_or all i p)
    (count : left + (i + 1) ≡ length all)
    (next : following ≡ (if is_rest (pattern_view p) then item_count (table_program table) t (length all) - left else
    suc number)) where
  behind_here : (parts : ℕ) → item_count (table_program table) t (pattern_count (list_of all)) ≡ parts →
      part_behind parts number (pattern_view p) (list_of (drop (i + 1) all)) ≡ following
  behind_here parts e =
      ap (λ n. if is_rest (pattern_view p) then parts - n else suc number) (left_count all i left count)
      ∙ (ap (λ n. if is_rest (pattern_view p) then n - left else suc number)
      (sym e ∙ ap (item_count (table_program table) t) (pattern_count-map pattern_view all)) ∙ sym next)

  front_here : (s : Setting) (types : ℕ → MType) (parts : ℕ) (b : Bool) → is_rest (pattern_view p) ≡ b →
      built_front s types number m (list_of (drop i all))
      ≡ (if b then [] else built s (types number) m (pattern_view p) ∷ built_front s types (suc number) m
      (list_of (drop (i + 1) all)))
  front_here s types parts b e =
      ap (λ xs. built_front s types number m xs) (from_here all i p lt at)
      ∙ ap (λ (c : Bool). if c then [] else built s (types number) m (pattern_view p) ∷ built_front s types
      (suc number) m (list_of (drop (i + 1) all))) e

  back_here : (s : Setting) (types : ℕ → MType) (parts : ℕ) (b : Bool) → is_rest (pattern_view p) ≡ b →
      built_back s types parts m (list_of (drop i all))
      ≡ (if b then built_front s types (parts - pattern_count (list_of (drop (i + 1) all))) m
      (list_of (drop (i + 1) all)) else built_back s types parts m (list_of (drop (i + 1) all)))
  back_here s types parts b e =
      ap (λ xs. built_back s types parts m xs) (from_here all i p lt at)
      ∙ ap (λ (c : Bool). if c then built_front s types (parts - pattern_count (list_of (drop (i + 1) all))) m
      (list_of (drop (i + 1) all)) else built_back s types parts m (list_of (drop (i + 1) all))) e

  rests_here : (b : Bool) → is_rest (pattern_view p) ≡ b → rest_count (list_of (drop i all)) ≡ (if b then 1 else 0) +
      rest_count (list_of (drop (i + 1) all))
  rests_here b e = ap rest_count (from_here all i p lt at) ∙ ap (λ (c : Bool). (if c then 1 else 0) + rest_count
      (list_of (drop (i + 1) all))) e

  -- a rest, which is the first
  pub item_skipped : (behind : Bool) (front back : List (DePat TyId)) → is_rest (pattern_view p) ≡ true →
      ItemsLeft table t m (list_of all) behind number (list_of (drop i all)) front back →
      ItemsLeft table t m (list_of all) true following (list_of (drop (i + 1) all)) front back
  item_skipped true front back rest h s types parts is same counted once fit =
      let b = h s types parts is same counted once fit in
      let bad : 1 + rest_count (list_of (drop i all)) ≤ 1 = b.0 in
      absurd (omega (arith, bad, rests_here true rest))
  item_skipped false front back rest h s types parts is same counted once fit =
      let b = h s types parts is same counted once fit in
      let few' : 0 + rest_count (list_of (drop i all)) ≤ 1 = b.0 in
      let here : PartsFit s types parts number (more (pattern_view p) (list_of (drop (i + 1) all))) = subst
      (λ xs. PartsFit s types parts number xs) (from_here all i p lt at) b.1 in
      let to : parts - pattern_count (list_of (drop (i + 1) all)) ≡ following
      = sym (ap (λ (c : Bool). if c then parts - pattern_count (list_of (drop (i + 1) all)) else suc number) rest)
      ∙ behind_here parts counted in (
        omega (arith, few', rests_here true rest),
        subst (λ n. PartsFit s types parts n (list_of (drop (i + 1) all))) (behind_here parts counted) here.1,
        ap (λ xs. given (table_type table) front ++ xs) (sym (front_here s types parts true rest)) ∙ b.2,
        ap (λ xs. given (table_type table) back ++ xs) (sym (back_here s types parts true rest
            ∙ ap (λ n. built_front s types n m (list_of (drop (i + 1) all))) to)) ∙ b.3,
      )

  after : is_rest (pattern_view p) ≡ false → suc number ≡ following
  after plain_item = sym (next ∙ ap (λ (c : Bool). if c then item_count (table_program table) t (length all) - left
      else suc number) plain_item)

  -- an item up to the rest
  pub front_pushed : (front pushed back : List (DePat TyId)) (new : DePat TyId) (u : MType) → is_rest (pattern_view p)
      ≡ false → pushed ≡ front ++ new ∷ [] →
      u ≡ item_types (table_program table) t number → PatternShown table u m (pattern_view p) new →
      ItemsLeft table t m (list_of all) false number (list_of (drop i all)) front back →
      ItemsLeft table t m (list_of all) false following (list_of (drop (i + 1) all)) pushed back
  front_pushed front pushed back new u plain_item push type made h s types parts is same counted once fit =
      let b = h s types parts is same counted once fit in
      let few' : 0 + rest_count (list_of (drop i all)) ≤ 1 = b.0 in
      let here : PartsFit s types parts number (more (pattern_view p) (list_of (drop (i + 1) all))) = subst
      (λ xs. PartsFit s types parts number xs) (from_here all i p lt at) b.1 in
      let value : plain table new ≡ built s (types number) m (pattern_view p) = shown_at table (types number) u m
      (pattern_view p) new made (type ∙ same number) s is here.0 in
      let step : built_front s types number m (list_of (drop i all)) ≡ plain table new ∷ built_front s types following
      m (list_of (drop (i + 1) all))
      = front_here s types parts false plain_item
      ∙ (ap (λ n. built s (types number) m (pattern_view p) ∷ built_front s types n m (list_of (drop (i + 1) all)))
      (after plain_item)
      ∙ ap (λ (x : Built). x ∷ built_front s types following m (list_of (drop (i + 1) all))) (sym value)) in (
        omega (arith, few', rests_here false plain_item),
        subst (λ n. PartsFit s types parts n (list_of (drop (i + 1) all))) (behind_here parts counted) here.1,
        ap (λ xs. xs ++ built_front s types following m (list_of (drop (i + 1) all)))
            (ap (λ (xs : List (DePat TyId)). given (table_type table) xs) push ∙ given_more table front new)
            ∙ one_more (given (table_type table) front) (plain table new) (built_front s types following m
            (list_of (drop (i + 1) all)))
            (built_front s types number m (list_of (drop i all))) (built_front s types 0 m (list_of all)) step b.2,
        ap (λ xs. given (table_type table) back ++ xs) (sym (back_here s types parts false plain_item)) ∙ b.3,
      )

  -- an item behind it
  pub back_pushed : (front back pushed : List (DePat TyId)) (new : DePat TyId) (u : MType) → is_rest (pattern_view p)
      ≡ false → pushed ≡ back ++ new ∷ [] →
      u ≡ item_types (table_program table) t number → PatternShown table u m (pattern_view p) new →
      ItemsLeft table t m (list_of all) true number (list_of (drop i all)) front back →
      ItemsLeft table t m (list_of all) true following (list_of (drop (i + 1) all)) front pushed
  back_pushed front back pushed new u plain_item push type made h s types parts is same counted once fit =
      let b = h s types parts is same counted once fit in
      let few' : 1 + rest_count (list_of (drop i all)) ≤ 1 = b.0 in
      let here : PartsFit s types parts number (more (pattern_view p) (list_of (drop (i + 1) all))) = subst
      (λ xs. PartsFit s types parts number xs) (from_here all i p lt at) b.1 in
      let value : plain table new ≡ built s (types number) m (pattern_view p) = shown_at table (types number) u m
      (pattern_view p) new made (type ∙ same number) s is here.0 in
      let step : built_front s types number m (list_of (drop i all)) ≡ plain table new ∷ built_front s types following
      m (list_of (drop (i + 1) all))
      = front_here s types parts false plain_item
      ∙ (ap (λ n. built s (types number) m (pattern_view p) ∷ built_front s types n m (list_of (drop (i + 1) all)))
      (after plain_item)
      ∙ ap (λ (x : Built). x ∷ built_front s types following m (list_of (drop (i + 1) all))) (sym value)) in (
        omega (arith, few', rests_here false plain_item),
        subst (λ n. PartsFit s types parts n (list_of (drop (i + 1) all))) (behind_here parts counted) here.1,
        b.2,
        ap (λ xs. xs ++ built_front s types following m (list_of (drop (i + 1) all)))
            (ap (λ (xs : List (DePat TyId)). given (table_type table) xs) push ∙ given_more table back new)
            ∙ one_more (given (table_type table) back) (plain table new) (built_front s types following m
            (list_of (drop (i + 1) all)))
            (built_front s types number m (list_of (drop i all))) (built_back s types parts m (list_of all)) step b.3,
      )

-- where none is left all are made
pub items_all : (table : TypeTable) (t : MType) (m : Mode) (all left : PatternTrees) (behind : Bool) (number : ℕ)
    (front back : List (DePat TyId)) → left ≡ none →
    ItemsLeft table t m all behind number left front back →
    (s : Setting) (types : ℕ → MType) (parts : ℕ) → IsSettingOf table s →
    ((i : ℕ) → item_types (table_program table) t i ≡ types i) →
    item_count (table_program table) t (pattern_count all) ≡ parts → has_rests all ≡ false → PartsFit s types parts 0
    all →
    (given (table_type table) front ≡ built_front s types 0 m all) × (given (table_type table) back ≡ built_back s
    types parts m all)
items_all table t m all left behind number front back e h s types parts is same counted once fit =
    by behind (subst (λ xs. ItemsLeft table t m all behind number xs front back) e h)
  where
    by : (b : Bool) → ItemsLeft table t m all b number none front back →
        (given (table_type table) front ≡ built_front s types 0 m all) × (given (table_type table) back ≡ built_back s
        types parts m all)
    by true k = let b = k s types parts is same counted once fit in (
      sym (append-nil (given (table_type table) front))
          ∙ b.2,
      sym (append-nil (given (table_type table) back)) ∙ b.3,
    )
    by false k = let b = k s types parts is same counted once fit in (
      sym (append-nil (given (table_type table) front)) ∙ b.2,
      sym (append-nil (given (table_type table) back))
          ∙ b.3,
    )

-- one pattern more between two lists
module _ {T : Type 0} (IsType : T → Type 0) where
  made_between : (a b c : ℕ) (ps qs : List (MDePat T)) (p : MDePat T) → AreMade IsType a b (ps ++ qs) →
      IsMade IsType b c p → AreMade IsType a c ((ps ++ p ∷ []) ++ qs)
  made_between a b c ps qs p h k =
      let whole : AreMade IsType a c ((ps ++ qs) ++ p ∷ []) = made_more IsType a b c (ps ++ qs) p h k in
      record {
        uids = record {
          ordered = whole.uids.ordered;
          once = λ n.
              let w : times n (uids_in_all (de_pats_of ((ps ++ qs) ++ p ∷ []))) ≤ once_within a c n
              = whole.uids.once n in
              let x : times n (uids_in_all (de_pats_of ((ps ++ qs) ++ p ∷ []))) ≡ times n
              (uids_in_all (de_pats_of (ps ++ qs))) + times n (uids_in_all (de_pats_of (p ∷ []))) = split n
              (ps ++ qs) (p ∷ []) in
              let y : times n (uids_in_all (de_pats_of (ps ++ qs))) ≡ times n (uids_in_all (de_pats_of ps)) + times n
              (uids_in_all (de_pats_of qs)) = split n ps qs in
              let z : times n (uids_in_all (de_pats_of ((ps ++ p ∷ []) ++ qs))) ≡ times n
              (uids_in_all (de_pats_of (ps ++ p ∷ []))) + times n (uids_in_all (de_pats_of qs)) = split n
              (ps ++ p ∷ []) qs in
              let u : times n (uids_in_all (de_pats_of (ps ++ p ∷ []))) ≡ times n (uids_in_all (de_pats_of ps)) + times
              n (uids_in_all (de_pats_of (p ∷ []))) = split n ps (p ∷ []) in
              omega (arith, w, x, y, z, u);
        };
        types =
            let all : Every Typed (all_below (de_pats_of ps) ++ all_below (de_pats_of qs)) = subst (Every Typed)
            (below_both IsType ps qs) h.types in
            let one : Every Typed (all_below (de_pats_of (p ∷ []))) = (made_one IsType b c p k).types in
            subst (Every Typed) (sym (below_both IsType (ps ++ p ∷ []) qs))
            (every_both Typed (all_below (de_pats_of (ps ++ p ∷ []))) (all_below (de_pats_of qs))
            (subst (Every Typed) (sym (below_both IsType ps (p ∷ []))) (every_both Typed (all_below (de_pats_of ps))
            (all_below (de_pats_of (p ∷ [])))
            (left_of (all_below (de_pats_of ps)) (all_below (de_pats_of qs)) all) one))
            (right_of (all_below (de_pats_of ps)) (all_below (de_pats_of qs)) all));
      }
    where
      Typed : MDePat T → Type 0
      Typed q = IsType (type_of q)

      split : (n : ℕ) (ps qs : List (MDePat T)) → times n (uids_in_all (de_pats_of (ps ++ qs))) ≡ times n
          (uids_in_all (de_pats_of ps)) + times n (uids_in_all (de_pats_of qs))
      split n ps qs = ap (times n) (uids_both IsType ps qs) ∙ times_both n (uids_in_all (de_pats_of ps))
          (uids_in_all (de_pats_of qs))

      left_of : (xs ys : List (MDePat T)) → Every Typed (xs ++ ys) → Every Typed xs
      left_of [] ys h = tt
      left_of (x ∷ xs) ys h = (h.0, left_of xs ys h.1)

      right_of : (xs ys : List (MDePat T)) → Every Typed (xs ++ ys) → Every Typed ys
      right_of [] ys h = h
      right_of (x ∷ xs) ys h = right_of xs ys h.1

-- one item more up to the rest
pub front_made : (table : TypeTable) (a b c : ℕ) (front back pushed : List (DePat TyId)) (new : DePat TyId) →
    pushed ≡ front ++ new ∷ [] →
    AreMade (IsOf table) a b (trees front ++ trees back) → IsMade (IsOf table) b c (tree new) → AreMade (IsOf table) a
    c (trees pushed ++ trees back)
front_made table a b c front back pushed new e h k =
    subst (λ xs. AreMade (IsOf table) a c (xs ++ trees back)) (sym (ap (λ (fs : List (DePat TyId)). trees fs) e
    ∙ trees_more front new))
    (made_between (IsOf table) a b c (trees front) (trees back) (tree new) h k)

-- and behind it
pub back_made : (table : TypeTable) (a b c : ℕ) (front back pushed : List (DePat TyId)) (new : DePat TyId) →
    pushed ≡ back ++ new ∷ [] →
    AreMade (IsOf table) a b (trees front ++ trees back) → IsMade (IsOf table) b c (tree new) → AreMade (IsOf table) a
    c (trees front ++ trees pushed)
back_made table a b c front back pushed new e h k =
    subst (λ xs. AreMade (IsOf table) a c (trees front ++ xs)) (sym (ap (λ (fs : List (DePat TyId)). trees fs) e
    ∙ trees_more back new))
    (subst (λ xs. AreMade (IsOf table) a c xs) (append_assoc (trees front) (trees back) (tree new ∷ []))
    (made_more (IsOf table) a b c (trees front ++ trees back) (tree new) h k))

-- one item more, up to the rest or behind it
pub item_put : (table : TypeTable) (t : MType) (m : Mode) (all : List Pat) (i number following left : ℕ) (p : Pat)
    (behind : Bool) (front back front' back' : List (DePat TyId))
    (new : DePat TyId) (u : MType) → i < length all → p ≡ get_or all i p → left + (i + 1) ≡ length all →
    following ≡ (if is_rest (pattern_view p) then item_count (table_program table) t (length all) - left else suc
    number) → is_rest (pattern_view p) ≡ false →
    front' ≡ (if behind then front else front ++ new ∷ []) → back' ≡ (if behind then back ++ new ∷ [] else back) →
    u ≡ item_types (table_program table) t number → PatternShown table u m (pattern_view p) new →
    ItemsLeft table t m (list_of all) behind number (list_of (drop i all)) front back →
    ItemsLeft table t m (list_of all) behind following (list_of (drop (i + 1) all)) front' back'
item_put table t m all i number following left p true front back front' back' new u lt at count next plain_item e f
    type made h =
    subst (λ (xs : List (DePat TyId)). ItemsLeft table t m (list_of all) true following (list_of (drop (i + 1) all))
    xs back') (sym e)
    (back_pushed table t m all i number following left p lt at count next front back back' new u plain_item f type
    made h)
item_put table t m all i number following left p false front back front' back' new u lt at count next plain_item e f
    type made h =
    subst (λ (xs : List (DePat TyId)). ItemsLeft table t m (list_of all) false following (list_of (drop (i + 1) all))
    front' xs) (sym f)
    (front_pushed table t m all i number following left p lt at count next front front' back new u plain_item e type
    made h)

-- its uids and types
pub put_made : (table : TypeTable) (a b c : ℕ) (behind : Bool) (front back front' back' : List (DePat TyId))
    (new : DePat TyId) →
    front' ≡ (if behind then front else front ++ new ∷ []) → back' ≡ (if behind then back ++ new ∷ [] else back) →
    AreMade (IsOf table) a b (trees front ++ trees back) → IsMade (IsOf table) b c (tree new) → AreMade (IsOf table) a
    c (trees front' ++ trees back')
put_made table a b c true front back front' back' new e f h k =
    subst (λ (xs : List (DePat TyId)). AreMade (IsOf table) a c (trees xs ++ trees back')) (sym e)
    (back_made table a b c front back back' new f h k)
put_made table a b c false front back front' back' new e f h k =
    subst (λ (xs : List (DePat TyId)). AreMade (IsOf table) a c (trees front' ++ trees xs)) (sym f)
    (front_made table a b c front back front' new e h k)
