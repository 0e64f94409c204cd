-- Entry after entry of a report.
use Rattle.std.proofs.Common.{◌≡◌, ◌∙◌, ℕ, zero, suc, ◌+◌, ◌<◌, ◌≤◌, Bool, true, false, ◌&&◌, List, [], ◌∷◌, ◌++◌, map, take, length, sum_by, get_or, refl, sym, ap, subst, append_assoc, append-nil, arith}
use Rattle.std.specs.List.{AllZip, list_all, Contains}
use Rattle.std.specs.Prelude.{slice_get, Some}
use Rattle.std.proofs.Math.ListN.{get_or-map}
use Rattle.std.proofs.lemmas.List.{length-map, length-take-le, take_more, map-append}
use Rattle.std.proofs.lemmas.Option.{slice_get_within, get_or_from_slice_get}
use Rattle.std.proofs.lemmas.List.Sums.{get_or-le-sum_by, sum_by_push}
use Rattle.decl_syntax.specs.declared.items.Item.{Item}
use Rattle.decl_syntax.specs.Items.{ItemTree, item_view, kind_view}
use Rattle.decl_syntax.specs.Counts.{kind_arms}
use Rattle.pattern_rules.specs.Settings.{Setting}
use Rattle.verdict_json.specs.declared.refusal.Refusal.{Refusal}
use Rattle.verdict_json.specs.Report.{ReportEntry, RefusedFunction}
use Rattle.verdict_json.specs.Summaries.{IsSummary}
use Rattle.verdict_json.specs.Writing.{HasEntries}
use Rattle.verdict_json.specs.declared.summary.Summary.{Summary}
use Rattle.match_top.specs.declared.reporting.Progress.{Progress}
use Rattle.match_top.specs.declared.words.Command.{Command}
use Rattle.match_top.specs.Reports.{NumberedFunction, functions_from, functions_of, function_at, arms_of, IsEntry, is_clean}
use Rattle.match_top.specs.Reporting.{ReportsOn}

zip_push : {A B : Type 0} (R : A → B → Type 0) (xs : List A) (ys : List B) (x : A) (y : B) → AllZip R xs ys → R x y → AllZip R (xs ++ x ∷ []) (ys ++ y ∷ [])
zip_push R [] [] x y all r = (r, tt)
zip_push R [] (b ∷ ys) x y all r = absurd all
zip_push R (a ∷ xs) [] x y all r = absurd all
zip_push R (a ∷ xs) (b ∷ ys) x y all r = (all.0, zip_push R xs ys x y all.1 r)

and_true : (b : Bool) → (b && true) ≡ b
and_true true = refl
and_true false = refl

and_assoc : (a b c : Bool) → ((a && b) && c) ≡ (a && (b && c))
and_assoc true b c = refl
and_assoc false b c = refl

all_push : (p : ReportEntry → Bool) (xs : List ReportEntry) (x : ReportEntry) → list_all p (xs ++ x ∷ []) ≡ (list_all p xs && p x)
all_push p [] x = and_true (p x)
all_push p (y ∷ ys) x = ap (λ b. p y && b) (all_push p ys x) ∙ sym (and_assoc (p y) (list_all p ys) (p x))

-- the counts of one entry more
counts_more : (fs : List NumberedFunction) (f : NumberedFunction) (arms : ℕ) (es : List ReportEntry) (counts : Summary) → length f.function.arms ≡ arms
    → IsSummary (arms_of fs + arms) es counts → IsSummary (arms_of (fs ++ f ∷ [])) es counts
counts_more fs f arms es counts so_many h =
    subst (λ (n : ℕ). IsSummary n es counts) (ap (λ (n : ℕ). arms_of fs + n) (sym so_many) ∙ sym (sum_by_push (λ (g : NumberedFunction). length g.function.arms) fs f)) h

-- one entry more
pub one_more : (command : Command) (s : Setting) (fs : List NumberedFunction) (f : NumberedFunction) (e : ReportEntry) (old new : Progress) (arms : ℕ)
    → (h : ReportsOn command s fs old) → IsEntry command s f e → length f.function.arms ≡ arms → IsSummary (arms_of fs + arms) (h.entries ++ e ∷ []) new.counts
    → HasEntries (h.entries ++ e ∷ []) new.text → new.clean ≡ (old.clean && is_clean e) → ReportsOn command s (fs ++ f ∷ []) new
one_more command s fs f e old new arms h is so_many counts text clean = record {
  entries = h.entries ++ e ∷ [];
  each = zip_push (IsEntry command s) fs h.entries f e h.each is;
  text = text;
  counts = counts_more fs f arms (h.entries ++ e ∷ []) new.counts so_many counts;
  clean_is = clean ∙ ap (λ b. b && is_clean e) h.clean_is ∙ sym (all_push is_clean h.entries e);
}

and_false : (b : Bool) → (b && false) ≡ false
and_false true = refl
and_false false = refl

-- a refused function more
pub refused_more : (b : Bool) → false ≡ (b && false)
refused_more b = sym (and_false b)

-- the entry of a refused function, by its name and refusal
pub same_refusal : (n m : List ℕ) (r s : Refusal) → n ≡ m → r ≡ s → RefusedFunction n r ≡ RefusedFunction m s
same_refusal n m r s e f = ap (λ k. RefusedFunction k r) e ∙ ap (RefusedFunction m) f

-- the functions of a list and one item more
functions_push : (n : ℕ) (items : List ItemTree) (i : ItemTree) → functions_from n (items ++ i ∷ []) ≡ functions_from n items ++ function_at (n + length items) i.kind
functions_push n [] i = append-nil (function_at n i.kind) ∙ ap (λ m. function_at m i.kind) (plus_zero n)
  where
    plus_zero : (n : ℕ) → n ≡ n + 0
    plus_zero n = omega arith
functions_push n (x ∷ items) i =
    ap (λ fs. function_at n x.kind ++ fs) (functions_push (n + 1) items i ∙ ap (λ m. functions_from (n + 1) items ++ function_at m i.kind) (shifted n (length items)))
    ∙ sym (append_assoc (function_at n x.kind) (functions_from (n + 1) items) (function_at (n + suc (length items)) i.kind))
  where
    shifted : (n m : ℕ) → (n + 1) + m ≡ n + suc m
    shifted n m = omega arith

-- the functions of a front that is one item longer
pub functions_more : (items : List Item) (i : ℕ) (x : Item) → i < length items → x ≡ get_or items i x
    → functions_from 0 (map item_view (take (i + 1) items)) ≡ functions_from 0 (map item_view (take i items)) ++ function_at i (kind_view x.kind)
functions_more items i x lt is =
    let front : map item_view (take (i + 1) items) ≡ map item_view (take i items) ++ item_view x ∷ [] =
    ap (map item_view) (take_more items i x lt ∙ ap (λ (y : Item). take i items ++ y ∷ []) (sym is)) ∙ map-append item_view (take i items) (x ∷ []) in
    let number : length (map item_view (take i items)) ≡ i = rw length-map (length-take-le i items (omega arith)) in
    let last : 0 + length (map item_view (take i items)) ≡ i = zero_plus (length (map item_view (take i items))) ∙ number in
    ap (functions_from 0) front
    ∙ functions_push 0 (map item_view (take i items)) (item_view x)
    ∙ ap (λ n. functions_from 0 (map item_view (take i items)) ++ function_at n (kind_view x.kind)) last
  where
    zero_plus : (n : ℕ) → 0 + n ≡ n
    zero_plus n = omega arith

-- the functions of a list of items and the one behind it
functions_next : (front : List Item) (x : Item) (i : ℕ) → i ≡ length front
    → functions_of (map item_view (front ++ x ∷ [])) ≡ functions_of (map item_view front) ++ function_at i (kind_view x.kind)
functions_next front x i is =
    let number : 0 + length (map item_view front) ≡ i = zero_plus (length (map item_view front)) ∙ length-map front item_view ∙ sym is in
    ap (functions_from 0) (map-append item_view front (x ∷ []))
    ∙ functions_push 0 (map item_view front) (item_view x)
    ∙ ap (λ n. functions_from 0 (map item_view front) ++ function_at n (kind_view x.kind)) number
  where
    zero_plus : (n : ℕ) → 0 + n ≡ n
    zero_plus n = omega arith

-- the entries of a list of items and of the one behind it
pub reports_next : (command : Command) (s : Setting) (front : List Item) (x : Item) (i : ℕ) (p : Progress) → i ≡ length front
    → ReportsOn command s (functions_of (map item_view front) ++ function_at i (kind_view x.kind)) p → ReportsOn command s (functions_of (map item_view (front ++ x ∷ []))) p
reports_next command s front x i p is h = subst (λ fs. ReportsOn command s fs p) (sym (functions_next front x i is)) h

stands_next : (front rest : List Item) (x : Item) → slice_get (map item_view (front ++ x ∷ rest)) (length front) ≡ Some (item_view x)
stands_next [] rest x = refl
stands_next (y ∷ ys) rest x = stands_next ys rest x

-- the item behind the first ones has their number
pub there_next : (all : List ItemTree) (front rest : List Item) (x : Item) (i : ℕ) → map item_view (front ++ x ∷ rest) ≡ all → i ≡ length front
    → slice_get all i ≡ Some (item_view x)
there_next all front rest x i same is =
    ap (slice_get all) is ∙ ap (λ (its : List ItemTree). slice_get its (length front)) (sym same) ∙ stands_next front rest x

-- what stands at a number is among the items
pub contains_at : (items : List ItemTree) (i : ℕ) (item : ItemTree) → slice_get items i ≡ Some item → Contains items item
contains_at items i item there = (i, slice_get_within items i item there, get_or_from_slice_get items i item item there)

-- an item has at most as many arms as all items together
pub few_there : (items : List ItemTree) (i : ℕ) (x : Item) (most : ℕ) → slice_get items i ≡ Some (item_view x) → sum_by (λ t. kind_arms t.kind) items < most
    → kind_arms (kind_view x.kind) < most
few_there items i x most there few =
    let here : get_or items i (item_view x) ≡ item_view x = get_or_from_slice_get items i (item_view x) (item_view x) there in
    let within : kind_arms (get_or items i (item_view x)).kind ≤ sum_by (λ t. kind_arms t.kind) items =
    get_or-le-sum_by (λ (t : ItemTree). kind_arms t.kind) items i (item_view x) (slice_get_within items i (item_view x) there) in
    let mine : kind_arms (kind_view x.kind) ≤ sum_by (λ t. kind_arms t.kind) items =
    subst (λ (t : ItemTree). kind_arms t.kind ≤ sum_by (λ u. kind_arms u.kind) items) here within in
    omega arith
