-- The function of a name.
use Rattle.std.proofs.Common.{◌≡◌, ◌∙◌, ℕ, suc, ◌+◌, ◌<◌, ◌≤◌, Bool, true, false, List, [], ◌∷◌, ◌++◌, map, take, drop, length, sum_by, get_or, Some, None, refl, sym, ap, subst, append_assoc, take-append-drop, arith}
use Rattle.std.specs.Prelude.{slice_get, if◌then◌else◌}
use Rattle.std.specs.Str.{bytes_eq}
use Rattle.std.proofs.lemmas.List.{length-map, map-append}
use Rattle.std.proofs.lemmas.List.Sums.{get_or-le-sum_by}
use Rattle.std.proofs.lemmas.Option.{slice_get_within, get_or_from_slice_get}
use Rattle.decl_syntax.specs.declared.items.Arm.{Arm}
use Rattle.decl_syntax.specs.declared.items.Item.{Item}
use Rattle.decl_syntax.specs.Counts.{kind_arms}
use Rattle.decl_syntax.specs.Functions.{FunctionTree}
use Rattle.decl_syntax.specs.Items.{KindTree, Enum, Struct, Import, Function, ItemTree, arm_view, item_view, kind_view}
use Rattle.pattern_rules.specs.Faults.{function_of}
use Rattle.match_top.specs.Outcomes.{function_named}
use Rattle.match_top.specs.Reporting.{StandsAt}
use Rattle.match_top.specs.Reports.{NumberedFunction, function_at, functions_from, functions_of}
use Rattle.match_top.proofs.Entries.{functions_more}
use Rattle.match_top.proofs.SomeReport.{stands_behind}

-- where the first functions do not have the name, those behind decide
named_behind : (fs gs : List NumberedFunction) (name : List ℕ) → function_named fs name ≡ None → function_named (fs ++ gs) name ≡ function_named gs name
named_behind [] gs name none = refl
named_behind (f ∷ fs) gs name none = by (λ e. named_behind fs gs name e) (bytes_eq f.function.name name) none
  where
    by : (function_named fs name ≡ None → function_named (fs ++ gs) name ≡ function_named gs name)
        → (same : Bool) → (if same then Some f else function_named fs name) ≡ None
        → (if same then Some f else function_named (fs ++ gs) name) ≡ function_named gs name
    by rest true e = absurd cc
    by rest false e = rest e

-- where one of the first functions has it, it is the one
named_before : (fs gs : List NumberedFunction) (name : List ℕ) (g : NumberedFunction) → function_named fs name ≡ Some g
    → function_named (fs ++ gs) name ≡ Some g
named_before [] gs name g found = absurd cc
named_before (f ∷ fs) gs name g found = by (λ e. named_before fs gs name g e) (bytes_eq f.function.name name) found
  where
    by : (function_named fs name ≡ Some g → function_named (fs ++ gs) name ≡ Some g)
        → (same : Bool) → (if same then Some f else function_named fs name) ≡ Some g
        → (if same then Some f else function_named (fs ++ gs) name) ≡ Some g
    by rest true e = e
    by rest false e = rest e

-- it stands among them
named_stands : (fs : List NumberedFunction) (name : List ℕ) (g : NumberedFunction) → function_named fs name ≡ Some g → (k : ℕ) × (slice_get fs k ≡ Some g)
named_stands [] name g found = absurd cc
named_stands (f ∷ fs) name g found = by (λ e. named_stands fs name g e) (bytes_eq f.function.name name) found
  where
    by : (function_named fs name ≡ Some g → (k : ℕ) × (slice_get fs k ≡ Some g))
        → (same : Bool) → (if same then Some f else function_named fs name) ≡ Some g → (k : ℕ) × (slice_get (f ∷ fs) k ≡ Some g)
    by rest true e = (0, e)
    by rest false e = let there = rest e in (suc there.0, there.1)

-- the functions of two lists of items
functions_append : (n : ℕ) (xs ys : List ItemTree) → functions_from n (xs ++ ys) ≡ functions_from n xs ++ functions_from (n + length xs) ys
functions_append n [] ys = ap (λ m. functions_from m ys) (plus_zero n)
  where
    plus_zero : (n : ℕ) → n ≡ n + 0
    plus_zero n = omega arith
functions_append n (x ∷ xs) ys =
    ap (λ fs. function_at n x.kind ++ fs) (functions_append (n + 1) xs ys ∙ ap (λ m. functions_from (n + 1) xs ++ functions_from m ys) (shifted n (length xs)))
    ∙ sym (append_assoc (function_at n x.kind) (functions_from (n + 1) xs) (functions_from (n + suc (length xs)) ys))
  where
    shifted : (n m : ℕ) → (n + 1) + m ≡ n + suc m
    shifted n m = omega arith

-- no function of a front that is one item longer has the name
pub none_more : (items : List Item) (i : ℕ) (x : Item) (name : List ℕ) → i < length items → x ≡ get_or items i x
    → function_named (functions_of (map item_view (take i items))) name ≡ None → function_named (function_at i (kind_view x.kind)) name ≡ None
    → function_named (functions_of (map item_view (take (i + 1) items))) name ≡ None
none_more items i x name lt is before here =
    ap (λ fs. function_named fs name) (functions_more items i x lt is)
    ∙ named_behind (functions_of (map item_view (take i items))) (function_at i (kind_view x.kind)) name before
    ∙ here

-- the function of the name is the item's
pub found_here : (items : List Item) (i : ℕ) (x : Item) (name : List ℕ) (g : NumberedFunction) → i < length items → x ≡ get_or items i x
    → function_named (functions_of (map item_view (take i items))) name ≡ None → function_named (function_at i (kind_view x.kind)) name ≡ Some g
    → function_named (functions_of (map item_view items)) name ≡ Some g
found_here items i x name g lt is before here =
    let front : List ItemTree = map item_view (take (i + 1) items) in
    let rest : List ItemTree = map item_view (drop (i + 1) items) in
    let whole : map item_view items ≡ front ++ rest =
    ap (map item_view) (sym (take-append-drop (i + 1) items)) ∙ map-append item_view (take (i + 1) items) (drop (i + 1) items) in
    let found : function_named (functions_of front) name ≡ Some g =
    ap (λ fs. function_named fs name) (functions_more items i x lt is)
    ∙ named_behind (functions_of (map item_view (take i items))) (function_at i (kind_view x.kind)) name before
    ∙ here in
    ap (λ all. function_named (functions_of all) name) whole
    ∙ ap (λ fs. function_named fs name) (functions_append 0 front rest)
    ∙ named_before (functions_of front) (functions_from (0 + length front) rest) name g found

-- the function of a name is an item
pub named_is_item : (items : List ItemTree) (name : List ℕ) (g : NumberedFunction) → function_named (functions_of items) name ≡ Some g
    → StandsAt items g.number g.function
named_is_item items name g found =
    let there = named_stands (functions_of items) name g found in
    let at = stands_behind 0 items there.0 g there.1 in
    subst (λ (i : ℕ). StandsAt items i g.function) (sym (at.1 ∙ plus at.0)) at.2
  where
    plus : (n : ℕ) → 0 + n ≡ n
    plus n = omega arith

some_is : {A : Type 0} (x y : A) → Some x ≡ Some y → x ≡ y
some_is x y e = cc

arms_of : (k : KindTree) (f : FunctionTree) → function_of k ≡ Some f → kind_arms k ≡ length f.arms
arms_of (Enum name variants) f is = absurd cc
arms_of (Struct name form) f is = absurd cc
arms_of (Import owner names) f is = absurd cc
arms_of (Function name param deref arms) f is = ap (λ (g : FunctionTree). length g.arms) (some_is _ f is)

-- it has at most as many arms as all items together
pub few_in : (items : List ItemTree) (i : ℕ) (f : FunctionTree) (most : ℕ) → StandsAt items i f → sum_by (λ t. kind_arms t.kind) items < most
    → length f.arms < most
few_in items i f most at few =
    let here : get_or items i at.item ≡ at.item = get_or_from_slice_get items i at.item at.item at.there in
    let within : kind_arms (get_or items i at.item).kind ≤ sum_by (λ t. kind_arms t.kind) items =
    get_or-le-sum_by (λ (t : ItemTree). kind_arms t.kind) items i at.item (slice_get_within items i at.item at.there) in
    let mine : kind_arms at.item.kind ≤ sum_by (λ t. kind_arms t.kind) items =
    subst (λ (t : ItemTree). kind_arms t.kind ≤ sum_by (λ u. kind_arms u.kind) items) here within in
    let arms : kind_arms at.item.kind ≡ length f.arms = arms_of at.item.kind f at.is in
    omega arith

-- the arms that a function has are those that are seen
pub few_seen : (arms : List Arm) (most : ℕ) → length (map arm_view arms) < most → length arms < most
few_seen arms most few = let same : length (map arm_view arms) ≡ length arms = length-map arms arm_view in omega arith

pub few_held : (arms : List Arm) (most : ℕ) → length arms < most → length (map arm_view arms) < most
few_held arms most few = let same : length (map arm_view arms) ≡ length arms = length-map arms arm_view in omega arith
