-- What stands for the heads of a place: the heads of a piece's parts, or nothing.
use Rattle.std.proofs.Common.{◌≡◌, ℕ, suc, Bool, true, false, not, ◌&&◌, ◌||◌, List, [], ◌∷◌, ◌++◌, map, length, nat_eq, cond, Some, None, refl, sym, ap, subst, ◌∙◌, arith}
use Rattle.std.specs.List.{list_all, flat_map}
use Rattle.std.proofs.lemmas.List.{append-nil}
use Rattle.match_model.specs.Values.{MValue}
use Rattle.match_model.specs.Constructors.{MCtor, SingleCtor, PointCtor, LaterCtor, OtherTextCtor, VariantCtor, FlagCtor, NumbersCtor, TextCtor, RowCtor, WildCtor, OrCtor, builds, has_piece}
use Rattle.match_model.specs.ArenaPatterns.{MBound, de_pat, MDePats, de_pats_list}
use Rattle.match_model.specs.PieceStates.{is_present}
use Rattle.match_model.specs.Rows.{Head, Choice, choices_of, is_wild, is_wild_ctor, starts_wild, column_of, wildcards, heads_of, expand_row, specialised_heads, all_specialised}
use Rattle.match_model.specs.Steps.{Replacement, expand_head, specialise_head, default_head, own_binds, with_others, replacements_at, row_replaced}
use Rattle.match_model.specs.Witness.{parts_under}
use Rattle.match_model.proofs.Basics.{untrue, both}
use Rattle.pattern_matrix.specs.Covering.{row_takes}
use Rattle.pattern_matrix.specs.Counting.{Question, WantedRow, AreLong, heads_pass, has_chosen, row_answers, row_stops, counts, wanted_at}
use Rattle.pattern_matrix.specs.Searching.{heads_in, settled, first_ctors}
use Rattle.pattern_matrix.proofs.Specials.{wilds_length, IsSided, IsSidedRow, AreSidedRows}
use Rattle.pattern_matrix.proofs.Traces.{behind, head_traces, row_traces, behind_none, other_traces, pat_traces}
use Rattle.pattern_matrix.proofs.PieceTraces.{wilds_trace, heads_trace, none_trace, wild_trace}
use Rattle.pattern_matrix.proofs.Folds.{one_counts, fold, Each, takes_in, passes_in, traces_in}
use Rattle.pattern_matrix.proofs.AnyColumn.{Replaces, HeadAt, HeadsAt, row_moved, these_rows}

-- heads after a step

all_wanted_so : {T : Type 0} (f : Head T → List (Replacement T)) (x : WantedRow T) (ys : List (Replacement T)) (rows : List (WantedRow T)) →
    heads_in (map (λ y. record { row = row_replaced [] x.row y; wanted = x.wanted }) ys ++ rows) ≡ map (λ y. y.heads) ys ++ heads_in rows
all_wanted_so f x [] rows = refl
all_wanted_so f x (y ∷ ys) rows = ap (λ hss. y.heads ∷ hss) (all_wanted_so f x ys rows)

-- the heads of a row's replacements, one list after the other
abbrev pub replaced_heads : {T : Type 0} → (Head T → List (Replacement T)) → List (Head T) → List (List (Head T))
replaced_heads f hs = map (λ y. y.heads) (replacements_at f 0 hs)

pub wanted_heads : {T : Type 0} (f : Head T → List (Replacement T)) (rows : List (WantedRow T)) →
    heads_in (wanted_at f [] 0 rows) ≡ flat_map (replaced_heads f) (heads_in rows)
wanted_heads f [] = refl
wanted_heads f (x ∷ rows) =
    all_wanted_so f x (replacements_at f 0 x.row.heads) (wanted_at f [] 0 rows)
    ∙ ap (λ hss. replaced_heads f x.row.heads ++ hss) (wanted_heads f rows)

pub special_heads : {T : Type 0} (p : MCtor) (n : ℕ) (hss : List (List (Head T))) → flat_map (replaced_heads (specialise_head p n)) hss ≡ all_specialised p n hss
special_heads p n [] = refl
special_heads {T} p n (hs ∷ hss) = ap (λ xs. xs ++ flat_map (replaced_heads (specialise_head p n)) hss) (one_row hs) ∙ ap (λ xs. specialised_heads p n hs ++ xs) (special_heads p n hss)
  where
    one_row : (hs : List (Head T)) → replaced_heads (specialise_head p n) hs ≡ specialised_heads p n hs
    one_row [] = refl
    one_row (None ∷ rest) = refl
    one_row (Some (de_pat c t uid at subs binds) ∷ rest) = go (has_piece c p)
      where
        go : (b : Bool) →
            map (λ (y : Replacement T). y.heads) (map (with_others rest) (cond b (record { heads = heads_of c (map Some (de_pats_list subs)) n; chosen = []; binds = binds } ∷ []) []))
            ≡ cond b ((heads_of c (map Some (de_pats_list subs)) n ++ rest) ∷ []) []
        go true = refl
        go false = refl

-- each row has a head
abbrev pub AreSome : {T : Type 0} → List (List (Head T)) → Type 0
AreSome [] = Unit {0}
AreSome (hs ∷ hss) = (hs ≡ [] → ⊥) × AreSome hss

pub expanded_heads : {T : Type 0} (hss : List (List (Head T))) → AreSome hss → flat_map (replaced_heads expand_head) hss ≡ flat_map expand_row hss
expanded_heads [] s = refl
expanded_heads {T} (hs ∷ hss) s = ap (λ xs. xs ++ flat_map (replaced_heads expand_head) hss) (one_row hs s.0) ∙ ap (λ xs. expand_row hs ++ xs) (expanded_heads hss s.1)
  where
    one_row : (hs : List (Head T)) → (hs ≡ [] → ⊥) → replaced_heads expand_head hs ≡ expand_row hs
    one_row [] f = absurd (f refl)
    one_row (None ∷ rest) f = refl
    one_row (Some p ∷ rest) f = go (choices_of p)
      where
        go : (cs : List (Choice T)) →
            map (λ (y : Replacement T). y.heads) (map (with_others rest) (map (λ c. record { heads = Some c.pat ∷ []; chosen = c.chosen; binds = c.binds }) cs))
            ≡ map (λ c. Some c.pat ∷ rest) cs
        go [] = refl
        go (c ∷ cs) = ap (λ xs. (Some c.pat ∷ rest) ∷ xs) (go cs)

-- what stands for a head

-- the heads of the parts stand for a head, on the parts of a value of the piece
special_replaces : {T : Type 0} (named : List (List ℕ)) (p : MCtor) (n : ℕ) (v : MValue) (rest : List (Head T)) (h : Head T) →
    builds named p v ≡ true → length (parts_under p v) ≡ n → IsSidedRow named p n (h ∷ rest) → Replaces (specialise_head p n) (parts_under p v) v h
special_replaces {T} named p n v rest None b l s = (
  append-nil (behind [] (row_traces (wildcards {T = T} n) (parts_under p v)))
      ∙ behind_none (row_traces (wildcards {T = T} n) (parts_under p v)) ∙ wilds_trace T n (parts_under p v) l,
  (wilds_length T n ∙ sym l, tt),
)
special_replaces {T} named p n v rest (Some (de_pat c t uid at subs binds)) b l s = go (has_piece c p) refl
  where
    hs : List (Head T)
    hs = heads_of c (map Some (de_pats_list subs)) n

    go : (has : Bool) → has_piece c p ≡ has →
        (traces_in (parts_under p v) (cond has (record { heads = heads_of c (map Some (de_pats_list subs)) n; chosen = []; binds = binds } ∷ []) []) ≡ head_traces (Some (de_pat c t uid at subs binds)) v)
        × Each (λ (y : Replacement T). length y.heads ≡ length (parts_under p v)) (cond has (record { heads = heads_of c (map Some (de_pats_list subs)) n; chosen = []; binds = binds } ∷ []) [])
    go true e = (
      append-nil (behind [] (row_traces hs (parts_under p v)))
          ∙ behind_none (row_traces hs (parts_under p v))
          ∙ heads_trace c p subs n v named (other_traces subs v) s.plain e (s.room e) b (s.sided v b ∙ e) l s.ends ∙ sym (pat_traces c t uid at subs binds v),
      (s.count e ∙ sym l, tt),
    )
    go false e = (sym (pat_traces c t uid at subs binds v ∙ none_trace c subs v (other_traces subs v) s.plain (s.sided v b ∙ e)), tt)

pub specials_replace : {T : Type 0} (named : List (List ℕ)) (p : MCtor) (n : ℕ) (v : MValue) (rows : List (WantedRow T)) →
    builds named p v ≡ true → length (parts_under p v) ≡ n → AreSidedRows named p n (heads_in rows) →
    HeadsAt (Replaces (specialise_head p n) (parts_under p v) v) 0 rows
specials_replace named p n v [] b l s = tt
specials_replace {T} named p n v (x ∷ rows) b l s = (go x.row.heads s.0, specials_replace named p n v rows b l s.1)
  where
    go : (hs : List (Head T)) → IsSidedRow named p n hs → HeadAt (Replaces (specialise_head p n) (parts_under p v) v) 0 hs
    go [] k = tt
    go (h ∷ rest) k = special_replaces named p n v rest h b l k

-- nothing stands for a wildcard, where no value is left
default_replaces : {T : Type 0} (v : MValue) (h : Head T) → is_wild h ≡ true → Replaces default_head [] v h
default_replaces v None e = (refl, (refl, tt))
default_replaces v (Some (de_pat c t uid at subs binds)) e = go c e
  where
    go : (c : MCtor) → is_wild_ctor c ≡ true → Replaces default_head [] v (Some (de_pat c t uid at subs binds))
    go WildCtor e = (sym (wild_trace (Some (de_pat WildCtor t uid at subs binds)) v refl), (refl, tt))
    go _ e = untrue e

-- and no row for a head that has not the piece of the value
default_gone : {T : Type 0} (named : List (List ℕ)) (p : MCtor) (n : ℕ) (v : MValue) (c : MCtor) (t : T) (uid at : ℕ)
    (subs : MDePats T) (binds : List MBound) →
    builds named p v ≡ true → IsSided named p n c subs → is_wild_ctor c ≡ false → has_piece c p ≡ false → Replaces default_head [] v (Some (de_pat c t uid at subs binds))
default_gone {T} named p n v c t uid at subs binds b s w h =
    subst (λ x. (traces_in [] (put x) ≡ head_traces (Some (de_pat c t uid at subs binds)) v) × Each (λ (y : Replacement T). length y.heads ≡ 0) (put x)) (sym w)
    (sym (pat_traces c t uid at subs binds v ∙ none_trace c subs v (other_traces subs v) s.plain (s.sided v b ∙ h)), tt)
  where
    put : Bool → List (Replacement T)
    put x = cond x (record { heads = []; chosen = []; binds = binds } ∷ []) []

pub wilds_replace : {T : Type 0} (v : MValue) (rows : List (WantedRow T)) → list_all starts_wild (heads_in rows) ≡ true → HeadsAt (Replaces default_head [] v) 0 rows
wilds_replace v [] e = tt
wilds_replace {T} v (x ∷ rows) e =
    let b = both (starts_wild x.row.heads) (list_all starts_wild (heads_in rows)) e in
    (go x.row.heads b.0, wilds_replace v rows b.1)
  where
    go : (hs : List (Head T)) → starts_wild hs ≡ true → HeadAt (Replaces default_head [] v) 0 hs
    go [] e = tt
    go (h ∷ rest) e = default_replaces v h e

or_false : (a b : Bool) → (a || b) ≡ false → (a ≡ false) × (b ≡ false)
or_false true b e = untrue (sym e)
or_false false b e = (refl, e)

pub missing_replace : {T : Type 0} (named : List (List ℕ)) (p : MCtor) (n : ℕ) (v : MValue) (rows : List (WantedRow T)) →
    builds named p v ≡ true → AreSidedRows named p n (heads_in rows) → is_present (first_ctors rows) p ≡ false →
    HeadsAt (Replaces default_head [] v) 0 rows
missing_replace named p n v [] b s e = tt
missing_replace {T} named p n v (x ∷ rows) b s e = go x.row.heads s.0 e (λ k. missing_replace named p n v rows b s.1 k)
  where
    go : (hs : List (Head T)) → IsSidedRow named p n hs → is_present (column_of (hs ∷ heads_in rows)) p ≡ false →
        (is_present (first_ctors rows) p ≡ false → HeadsAt (Replaces default_head [] v) 0 rows) →
        HeadAt (Replaces default_head [] v) 0 hs × HeadsAt (Replaces default_head [] v) 0 rows
    go [] s e f = (tt, f e)
    go (None ∷ rest) s e f = ((refl, (refl, tt)), f e)
    go (Some (de_pat c t uid at subs binds) ∷ rest) s e f = by c s e
      where
        other : (c : MCtor) → IsSided named p n c subs → is_wild_ctor c ≡ false → (has_piece c p || is_present (first_ctors rows) p) ≡ false →
            Replaces default_head [] v (Some (de_pat c t uid at subs binds)) × HeadsAt (Replaces default_head [] v) 0 rows
        other c s w e = let k = or_false (has_piece c p) (is_present (first_ctors rows) p) e in (default_gone named p n v c t uid at subs binds b s w k.0, f k.1)

        by : (c : MCtor) → IsSided named p n c subs → is_present (column_of ((Some (de_pat c t uid at subs binds) ∷ rest) ∷ heads_in rows)) p ≡ false →
            Replaces default_head [] v (Some (de_pat c t uid at subs binds)) × HeadsAt (Replaces default_head [] v) 0 rows
        by WildCtor s e = (default_replaces v (Some (de_pat WildCtor t uid at subs binds)) refl, f e)
        by OrCtor s e = other OrCtor s refl e
        by SingleCtor s e = other SingleCtor s refl e
        by PointCtor s e = other PointCtor s refl e
        by LaterCtor s e = other LaterCtor s refl e
        by OtherTextCtor s e = other OtherTextCtor s refl e
        by (VariantCtor i) s e = other (VariantCtor i) s refl e
        by (FlagCtor i) s e = other (FlagCtor i) s refl e
        by (NumbersCtor i) s e = other (NumbersCtor i) s refl e
        by (TextCtor i) s e = other (TextCtor i) s refl e
        by (RowCtor i) s e = other (RowCtor i) s refl e

-- rows that are wild at the first place

-- only the rows that are wild there are wanted
abbrev pub wild_alone : {T : Type 0} → List (WantedRow T) → List (WantedRow T)
wild_alone rows = map (λ x. record { row = x.row; wanted = x.wanted && starts_wild x.row.heads }) rows

-- what counts is of a row of one kind or of the other
pub kinds_count : {T : Type 0} (q : Question) (rows : List (WantedRow T)) (vs : List MValue) →
    counts q rows vs ≡ (counts q (settled rows) vs || counts q (wild_alone rows) vs)
kinds_count q [] vs = refl
kinds_count q (x ∷ rows) vs =
    ap (λ b. (x.wanted && row_answers q x.row vs) || (not (row_stops x.row vs) && b)) (kinds_count q rows vs)
    ∙ closed x.wanted (row_answers q x.row vs) (row_stops x.row vs) (starts_wild x.row.heads) (counts q (settled rows) vs) (counts q (wild_alone rows) vs)
  where
    closed : (w a s i k m : Bool) → ((w && a) || (not s && (k || m))) ≡ ((((w && not i) && a) || (not s && k)) || (((w && i) && a) || (not s && m)))
    closed w a s i k m = grind arith

-- where a row that is wild there counts, it counts among those left over: of these fewer stand before it
pub wild_counts : {T : Type 0} (q : Question) (v : MValue) (vs : List MValue) (rows : List (WantedRow T)) → AreLong (suc (length vs)) rows →
    counts q (wild_alone rows) (v ∷ vs) ≡ true → counts q (wanted_at default_head [] 0 rows) vs ≡ true
wild_counts q v vs [] l e = untrue e
wild_counts {T} q v vs (x ∷ rows) l e = go x.row.heads refl l.0 (wild_counts q v vs rows l.1)
  where
    w : Bool
    w = x.wanted && nat_eq q.arm x.row.arm

    later : (w a s k m : Bool) → (((w && false) && a) || (not s && k)) ≡ true → (k ≡ true → m ≡ true) → m ≡ true
    later w a s true m e f = f refl
    later w a s false m e f = untrue (closed w a s ∙ e)
      where
        closed : (w a s : Bool) → false ≡ (((w && false) && a) || (not s && false))
        closed w a s = grind arith

    sooner : (w n g t b p k m : Bool) → (((w && true) && (n && (t && (b || p)))) || (not (not g && t) && k)) ≡ true → (k ≡ true → m ≡ true) →
        one_counts (w && n) g true b t p m ≡ true
    sooner w n g t b p k true e f = grind arith
    sooner w n g t b p true false e f = untrue (f refl)
    sooner w n g t b p false false e f = grind arith

    go : (hs : List (Head T)) → x.row.heads ≡ hs → length x.row.heads ≡ suc (length vs) →
        (counts q (wild_alone rows) (v ∷ vs) ≡ true → counts q (wanted_at default_head [] 0 rows) vs ≡ true) →
        counts q (wanted_at default_head [] 0 (x ∷ rows)) vs ≡ true
    go [] h k f = let z : 0 ≡ suc (length vs) = sym (ap length h) ∙ k in absurd (omega (arith, z))
    go (y ∷ hs) h k f = by (is_wild y) refl
      where
        by : (b : Bool) → is_wild y ≡ b → counts q (wanted_at default_head [] 0 (x ∷ rows)) vs ≡ true
        by true b =
            let r : HeadAt (Replaces default_head [] v) 0 x.row.heads = subst (HeadAt (Replaces default_head [] v) 0) (sym h) (default_replaces v y b) in
            let k' = counts q (wanted_at default_head [] 0 rows) vs in
            these_rows q [] x (replacements_at default_head 0 x.row.heads) (wanted_at default_head [] 0 rows) vs
            ∙ row_moved w x.row.guarded true (has_chosen q x.row.chosen) q.id default_head 0 x.row.heads (v ∷ vs) [] v k' refl k r
            ∙ sooner x.wanted (nat_eq q.arm x.row.arm) x.row.guarded (row_takes x.row.heads (v ∷ vs)) (has_chosen q x.row.chosen) (heads_pass x.row.guarded q.id x.row.heads (v ∷ vs)) (counts q (wild_alone rows) (v ∷ vs)) k'
            (subst (λ i. ((x.wanted && i) && row_answers q x.row (v ∷ vs)) || (not (row_stops x.row (v ∷ vs)) && counts q (wild_alone rows) (v ∷ vs)) ≡ true) (ap starts_wild h ∙ b) e) f
        by false b =
            let none : replacements_at default_head 0 x.row.heads ≡ [] = ap (replacements_at default_head 0) h ∙ ap (λ i. map (with_others hs) (cond i (record { heads = []; chosen = []; binds = own_binds y } ∷ []) [])) b in
            these_rows q [] x (replacements_at default_head 0 x.row.heads) (wanted_at default_head [] 0 rows) vs
            ∙ ap (λ ys. fold w x.row.guarded true (has_chosen q x.row.chosen) (takes_in vs) (passes_in x.row.guarded q.id vs) ys (counts q (wanted_at default_head [] 0 rows) vs)) none
            ∙ later x.wanted (row_answers q x.row (v ∷ vs)) (row_stops x.row (v ∷ vs)) (counts q (wild_alone rows) (v ∷ vs)) (counts q (wanted_at default_head [] 0 rows) vs)
            (subst (λ i. ((x.wanted && i) && row_answers q x.row (v ∷ vs)) || (not (row_stops x.row (v ∷ vs)) && counts q (wild_alone rows) (v ∷ vs)) ≡ true) (ap starts_wild h ∙ b) e) f
