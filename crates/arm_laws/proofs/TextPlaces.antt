-- Rows in which a text stands only where a shared reference to a text leads.
use Rattle.std.proofs.Common.{◌≡◌, ℕ, zero, suc, ◌+◌, ◌-◌, Bool, true, false, not, ◌||◌, List, [], ◌∷◌, ◌++◌}
use Rattle.std.proofs.Common.{inl, inr, map, take, drop, replicate, length, cond, Some, None, IsTrue, refl, sym, ap}
use Rattle.std.proofs.Common.{subst, ◌∙◌, arith}
use Rattle.std.specs.Prelude.{⊤}
use Rattle.std.specs.List.{flat_map, filter_map, list_all, list_any}
use Rattle.match_model.specs.ArenaPatterns.{MDePat, de_pat, MDePats, no_de_pats, more_de_pats, de_pats_list, uid_of}
use Rattle.match_model.specs.ArenaPatterns.{MDeArm}
use Rattle.match_model.specs.Constructors.{FixedShape, LongerShape, MCtor, PointCtor, TextCtor, OtherTextCtor, RowCtor}
use Rattle.match_model.specs.Constructors.{WildCtor, OrCtor, MSet, TextSet, belongs, has_piece}
use Rattle.match_model.specs.Contexts.{Context, Open}
use Rattle.match_model.specs.ContextLaws.{PartsLaw}
use Rattle.match_model.specs.Lists.{Among, Every}
use Rattle.match_model.specs.Pieces.{ArePieces, text_of}
use Rattle.match_model.specs.Rows.{Head, Choice, choices_of, all_choices_of, choice_among, with_binds, choices_by}
use Rattle.match_model.specs.Rows.{wildcards, heads_of, specialised_heads, all_specialised, expand_row, row_rest}
use Rattle.match_model.specs.Rows.{column_of}
use Rattle.match_model.specs.Texts.{text_eq}
use Rattle.match_model.specs.Types.{MType}
use Rattle.match_model.specs.Values.{MValue}
use Rattle.match_model.specs.WellTyped.{AreHeadsTyped}
use Rattle.match_model.specs.WitnessList.{row_of}
use Rattle.match_model.proofs.Basics.{untrue, both, and_true, or_left, or_right, text_itself}
use Rattle.pattern_matrix.specs.HeadRows.{AllTyped, cols}
use Rattle.pattern_matrix.proofs.SpecialTyped.{head_fitted}
use Rattle.pattern_rules.specs.ArenaForms.{all_within, all_below, is_text}
use Rattle.pattern_rules.specs.Literals.{is_shared_text}
use Rattle.pattern_rules.specs.Promises.{text_is_referred, texts_are_referred}

-- whether a text may stand at the parts of the constructor of the type
abbrev pub leads : MCtor → MType → Bool
leads PointCtor t = is_shared_text t
leads c t = false

-- the same of the patterns below one at such a place: an alternative stands where the or-pattern does
abbrev pub leads_on : Bool → MCtor → MType → Bool
leads_on b OrCtor t = b
leads_on b c t = leads c t

-- a text stands only where it may
abbrev pub IsAllowed : Bool → MCtor → Type 0
IsAllowed b (TextCtor u) = b ≡ true
IsAllowed b c = ⊤

abbrev mutual
  -- so do those in the pattern
  pub Allows : Bool → MDePat MType → Type 0
  Allows b (de_pat c t uid at subs binds) = IsAllowed b c × AllowAll (leads_on b c t) subs

  pub AllowAll : Bool → MDePats MType → Type 0
  AllowAll b no_de_pats = ⊤
  AllowAll b (more_de_pats p ps) = Allows b p × AllowAll b ps

-- ---- patterns of which a text stands only below a reference to one

all_split : {A : Type 0} (f : A → Bool) (xs ys : List A) → list_all f (xs ++ ys) ≡ true →
    (list_all f xs ≡ true) × (list_all f ys ≡ true)
all_split f [] ys h = (refl, h)
all_split f (x ∷ xs) ys h =
    let b = both (f x) (list_all f (xs ++ ys)) h in
    let r = all_split f xs ys b.1 in
    (and_true (f x) (list_all f xs) b.0 r.0, r.1)

first_or : (a c : Bool) → (a || not c) ≡ true → c ≡ true → a ≡ true
first_or true c h k = refl
first_or false true h k = h
first_or false false h k = k

mutual
  allowed : (b : Bool) (p : MDePat MType) → (is_text p ≡ true → b ≡ true) →
      list_all (text_is_referred (λ t. t)) (all_within p) ≡ true → Allows b p
  allowed b (de_pat c t uid at subs binds) k h =
      let s = both (text_is_referred (λ t. t) (de_pat c t uid at subs binds))
      (list_all (text_is_referred (λ t. t)) (all_below subs)) h in
      (here c k, all_allowed (leads_on b c t) subs (below c s.0) s.1)
    where
      here : (c : MCtor) → (is_text (de_pat c t uid at subs binds) ≡ true → b ≡ true) → IsAllowed b c
      here (TextCtor u) k = k refl
      here _ k = tt

      below : (c : MCtor) → text_is_referred (λ t. t) (de_pat c t uid at subs binds) ≡ true →
          list_any is_text (de_pats_list subs) ≡ true → leads_on b c t ≡ true
      below PointCtor r e = first_or (is_shared_text t) (list_any is_text (de_pats_list subs)) r e
      below _ r e = untrue (first_or false (list_any is_text (de_pats_list subs)) r e)

  all_allowed : (b : Bool) (ps : MDePats MType) → (list_any is_text (de_pats_list ps) ≡ true → b ≡ true) →
      list_all (text_is_referred (λ t. t)) (all_below ps) ≡ true → AllowAll b ps
  all_allowed b no_de_pats k h = tt
  all_allowed b (more_de_pats p ps) k h =
      let s = all_split (text_is_referred (λ t. t)) (all_within p) (all_below ps) h in (
        allowed b p (λ e. k (or_left (is_text p) (list_any is_text (de_pats_list ps)) e)) s.0,
        all_allowed b ps (λ e. k (or_right (is_text p) (list_any is_text (de_pats_list ps)) e)) s.1,
      )

pub pattern_allowed : (p : MDePat MType) → texts_are_referred (λ t. t) p ≡ true → Allows false p
pattern_allowed p h =
    let s = both (not (is_text p)) (list_all (text_is_referred (λ t. t)) (all_within p)) h in
    allowed false p (first_or false (is_text p) s.0) s.1

-- ---- what may stand where no reference leads may stand everywhere

mutual
  raised : (b : Bool) (p : MDePat MType) → Allows false p → Allows b p
  raised b (de_pat c t uid at subs binds) h = go c h (raised_all b subs)
    where
      go : (c : MCtor) → IsAllowed false c × AllowAll (leads_on false c t) subs → (AllowAll false subs → AllowAll b
          subs) →
          IsAllowed b c × AllowAll (leads_on b c t) subs
      go (TextCtor u) h r = untrue h.0
      go OrCtor h r = (tt, r h.1)
      go _ h r = (tt, h.1)

  raised_all : (b : Bool) (ps : MDePats MType) → AllowAll false ps → AllowAll b ps
  raised_all b no_de_pats h = tt
  raised_all b (more_de_pats p ps) h = (raised b p h.0, raised_all b ps h.1)

-- ---- rows, by which of their places may have a text; one of which nothing is said may not

abbrev pub first : List Bool → Bool
first [] = false
first (b ∷ bs) = b

abbrev pub rest : List Bool → List Bool
rest [] = []
rest (b ∷ bs) = bs

abbrev IsHead : Bool → Head MType → Type 0
IsHead b None = ⊤
IsHead b (Some p) = Allows b p

abbrev AllHeads : Bool → List (Head MType) → Type 0
AllHeads b [] = ⊤
AllHeads b (h ∷ hs) = IsHead b h × AllHeads b hs

abbrev AreHeads : List Bool → List (Head MType) → Type 0
AreHeads bs [] = ⊤
AreHeads bs (h ∷ hs) = IsHead (first bs) h × AreHeads (rest bs) hs

abbrev pub AreRows : List Bool → List (List (Head MType)) → Type 0
AreRows bs [] = ⊤
AreRows bs (hs ∷ hss) = AreHeads bs hs × AreRows bs hss

rows-append : (bs : List Bool) (xs ys : List (List (Head MType))) → AreRows bs xs → AreRows bs ys →
    AreRows bs (xs ++ ys)
rows-append bs [] ys h k = k
rows-append bs (x ∷ xs) ys h k = (h.0, rows-append bs xs ys h.1 k)

heads-append : (b : Bool) (xs ys : List (Head MType)) → AllHeads b xs → AllHeads b ys → AllHeads b (xs ++ ys)
heads-append b [] ys h k = k
heads-append b (x ∷ xs) ys h k = (h.0, heads-append b xs ys h.1 k)

heads-take : (b : Bool) (n : ℕ) (xs : List (Head MType)) → AllHeads b xs → AllHeads b (take n xs)
heads-take b zero xs h = tt
heads-take b (suc n) [] h = tt
heads-take b (suc n) (x ∷ xs) h = (h.0, heads-take b n xs h.1)

heads-drop : (b : Bool) (n : ℕ) (xs : List (Head MType)) → AllHeads b xs → AllHeads b (drop n xs)
heads-drop b zero xs h = h
heads-drop b (suc n) [] h = tt
heads-drop b (suc n) (x ∷ xs) h = heads-drop b n xs h.1

wilds : (b : Bool) (n : ℕ) → AllHeads b (wildcards n)
wilds b zero = tt
wilds b (suc n) = (tt, wilds b n)

wilds_many : (n : ℕ) → length {A = Head MType} (wildcards n) ≡ n
wilds_many zero = refl
wilds_many (suc n) = ap suc (wilds_many n)

subs_heads : (b : Bool) (ps : MDePats MType) → AllowAll b ps → AllHeads b (map Some (de_pats_list ps))
subs_heads b no_de_pats h = tt
subs_heads b (more_de_pats p ps) h = (h.0, subs_heads b ps h.1)

-- so many heads of one kind of place, and the others behind
before : (b : Bool) (n : ℕ) (bs : List Bool) (hs others : List (Head MType)) → length hs ≡ n → AllHeads b hs →
    AreHeads bs others → AreHeads (replicate n b ++ bs) (hs ++ others)
before b zero bs [] others e h k = k
before b zero bs (x ∷ hs) others e h k = absurd (omega (arith, e))
before b (suc n) bs [] others e h k = absurd (omega (arith, e))
before b (suc n) bs (x ∷ hs) others e h k = (h.0, before b n bs hs others (omega (arith, e)) h.1 k)

-- ---- or-patterns are expanded

abbrev AreChoices : Bool → List (Choice MType) → Type 0
AreChoices b [] = ⊤
AreChoices b (c ∷ cs) = Allows b c.pat × AreChoices b cs

choices-append : (b : Bool) (xs ys : List (Choice MType)) → AreChoices b xs → AreChoices b ys →
    AreChoices b (xs ++ ys)
choices-append b [] ys h k = k
choices-append b (x ∷ xs) ys h k = (h.0, choices-append b xs ys h.1 k)

choices-map : (b : Bool) (f : Choice MType → Choice MType) → ((c : Choice MType) → (f c).pat ≡ c.pat) →
    (cs : List (Choice MType)) → AreChoices b cs → AreChoices b (map f cs)
choices-map b f k [] h = tt
choices-map b f k (c ∷ cs) h = (subst (Allows b) (sym (k c)) h.0, choices-map b f k cs h.1)

keeps_pat : (subs : MDePats MType) (uid : ℕ) (c : Choice MType) → (choice_among subs uid c).pat ≡ c.pat
keeps_pat no_de_pats uid c = refl
keeps_pat (more_de_pats p no_de_pats) uid c = refl
keeps_pat (more_de_pats p (more_de_pats q qs)) uid c = refl

mutual
  choices_allowed : (b : Bool) (p : MDePat MType) → Allows b p → AreChoices b (choices_of p)
  choices_allowed b (de_pat c t uid at subs binds) h =
      go c h (choices-map (leads_on b c t) (with_binds binds) (λ d. refl) (all_choices_of (choice_among subs) subs)
      (alternatives_allowed (leads_on b c t) (choice_among subs) (λ x d. keeps_pat subs x d) subs h.1))
    where
      go : (c : MCtor) → Allows b (de_pat c t uid at subs binds) →
          AreChoices (leads_on b c t) (map (with_binds binds) (all_choices_of (choice_among subs) subs)) →
          AreChoices b (choices_by c (map (with_binds binds) (all_choices_of (choice_among subs) subs))
          (record { pat = de_pat c t uid at subs binds; chosen = []; binds = [] } ∷ []))
      go OrCtor m f = f
      go _ m f = (m, tt)

  alternatives_allowed : (b : Bool) (choose : ℕ → Choice MType → Choice MType) →
      ((u : ℕ) (d : Choice MType) → (choose u d).pat ≡ d.pat) →
      (ps : MDePats MType) → AllowAll b ps → AreChoices b (all_choices_of choose ps)
  alternatives_allowed b choose k no_de_pats h = tt
  alternatives_allowed b choose k (more_de_pats p ps) h =
      choices-append b (map (choose (uid_of p)) (choices_of p)) (all_choices_of choose ps)
      (choices-map b (choose (uid_of p)) (λ d. k (uid_of p) d) (choices_of p) (choices_allowed b p h.0))
      (alternatives_allowed b choose k ps h.1)

spread : (bs : List Bool) (others : List (Head MType)) (cs : List (Choice MType)) → AreHeads (rest bs) others →
    AreChoices (first bs) cs → AreRows bs (map (λ c. Some c.pat ∷ others) cs)
spread bs others [] h k = tt
spread bs others (c ∷ cs) h k = ((k.0, h), spread bs others cs h k.1)

expand_one : (bs : List Bool) (hs : List (Head MType)) → AreHeads bs hs → AreRows bs (expand_row hs)
expand_one bs [] h = (tt, tt)
expand_one bs (None ∷ others) h = (h, tt)
expand_one bs (Some p ∷ others) h = spread bs others (choices_of p) h.1 (choices_allowed (first bs) p h.0)

pub expand_allowed : (bs : List Bool) (hss : List (List (Head MType))) → AreRows bs hss →
    AreRows bs (flat_map expand_row hss)
expand_allowed bs [] h = tt
expand_allowed bs (hs ∷ hss) h =
    rows-append bs (expand_row hs) (flat_map expand_row hss) (expand_one bs hs h.0) (expand_allowed bs hss h.1)

pub rests_allowed : (bs : List Bool) (hss : List (List (Head MType))) → AreRows bs hss →
    AreRows (rest bs) (map row_rest hss)
rests_allowed bs [] h = tt
rests_allowed bs ([] ∷ hss) h = (tt, rests_allowed bs hss h.1)
rests_allowed bs ((x ∷ hs) ∷ hss) h = (h.0.1, rests_allowed bs hss h.1)

-- the constructors of the first column
pub column_allowed : (bs : List Bool) (hss : List (List (Head MType))) → AreRows bs hss →
    Every (IsAllowed (first bs)) (column_of hss)
column_allowed bs [] h = tt
column_allowed bs ([] ∷ hss) h = column_allowed bs hss h.1
column_allowed bs ((None ∷ hs) ∷ hss) h = column_allowed bs hss h.1
column_allowed bs ((Some (de_pat c t uid at subs binds) ∷ hs) ∷ hss) h = go c h.0.0.0 (column_allowed bs hss h.1)
  where
    go : (c : MCtor) → IsAllowed (first bs) c → Every (IsAllowed (first bs)) (column_of hss) →
        Every (IsAllowed (first bs)) (column_of ((Some (de_pat c t uid at subs binds) ∷ hs) ∷ hss))
    go WildCtor m k = k
    go _ m k = (m, k)

-- ---- rows are specialised

heads_allowed : (b : Bool) (c p : MCtor) (t : MType) (subs : MDePats MType) (n : ℕ) → has_piece c p ≡ true →
    AllowAll (leads_on b c t) subs → AllHeads (leads p t) (heads_of c (map Some (de_pats_list subs)) n)
heads_allowed b WildCtor p t subs n e h = wilds (leads p t) n
heads_allowed b OrCtor p t subs n e h = untrue e
heads_allowed b PointCtor PointCtor t subs n e h = subs_heads (is_shared_text t) subs h
heads_allowed b PointCtor _ t subs n e h = untrue e
heads_allowed b (RowCtor (LongerShape f g)) p t subs n e h =
    let x = leads p t in
    let hs = map Some (de_pats_list subs) in
    let all = subs_heads x subs (raised_all x subs h) in
    heads-append x (take f hs) (wildcards (n - (f + g)) ++ drop f hs) (heads-take x f hs all)
    (heads-append x (wildcards (n - (f + g))) (drop f hs) (wilds x (n - (f + g))) (heads-drop x f hs all))
heads_allowed b (RowCtor (FixedShape m)) p t subs n e h =
    subs_heads (leads p t) subs (raised_all (leads p t) subs h)
heads_allowed b _ p t subs n e h = subs_heads (leads p t) subs (raised_all (leads p t) subs h)

-- which places of the parts of a piece, and of those behind, may have a text
abbrev pub opened : Context MType → List Bool → Open MType → MCtor → List Bool
opened cx bs o p = replicate (cx.arity p o.type) (leads p o.type) ++ rest bs

module _ (cx : Context MType) (IsType : MType → Type 0) (IsValue : MType → Bool → MValue → Type 0)
    (law : PartsLaw IsType IsValue cx) where
  special_one : (bs : List Bool) (o : Open MType) (places : List (Open MType)) (p : MCtor) (hs : List (Head MType)) →
      IsType o.type → IsTrue (belongs (cx.set_of o.type) p) → AreHeadsTyped cx (cols (o ∷ places)) hs → AreHeads bs hs
      → AreRows (opened cx bs o p) (specialised_heads p (cx.arity p o.type) hs)
  special_one bs o places p [] d m h k = tt
  special_one bs o places p (None ∷ others) d m h k =
      let n = cx.arity p o.type in
      (before (leads p o.type) n (rest bs) (wildcards n) others (wilds_many n) (wilds (leads p o.type) n) k.1, tt)
  special_one bs o places p (Some (de_pat c t uid at subs binds) ∷ others) d m h k = go (has_piece c p) refl
    where
      go : (x : Bool) → has_piece c p ≡ x →
          AreRows (opened cx bs o p)
          (cond x ((heads_of c (map Some (de_pats_list subs)) (cx.arity p o.type) ++ others) ∷ []) [])
      go false e = tt
      go true e =
          let n = cx.arity p o.type in
          let below = subst (λ u. AllowAll (leads_on (first bs) c u) subs) h.0.0 k.0.1 in (
            before (leads p o.type) n (rest bs) (heads_of c (map Some (de_pats_list subs)) n) others
                (head_fitted IsType IsValue cx law o.type c p t uid at subs binds d m h.0 e).0
                (heads_allowed (first bs) c p o.type subs n e below) k.1,
            tt,
          )

  pub special_allowed : (bs : List Bool) (o : Open MType) (places : List (Open MType)) (p : MCtor)
      (hss : List (List (Head MType))) → IsType o.type → IsTrue (belongs (cx.set_of o.type) p) →
      AllTyped cx (cols (o ∷ places)) hss → AreRows bs hss →
      AreRows (opened cx bs o p) (all_specialised p (cx.arity p o.type) hss)
  special_allowed bs o places p [] d m h k = tt
  special_allowed bs o places p (hs ∷ hss) d m h k =
      rows-append (opened cx bs o p) (specialised_heads p (cx.arity p o.type) hs)
      (all_specialised p (cx.arity p o.type) hss) (special_one bs o places p hs d m h.0 k.0)
      (special_allowed bs o places p hss d m h.1 k.1)

-- ---- the rows of arms

pub arms_allowed : (arms : List (MDeArm MType)) → Every (λ a. Allows false a.pat) arms →
    AreRows [] (flat_map row_of arms)
arms_allowed [] h = tt
arms_allowed (a ∷ arms) h = go a.guarded (arms_allowed arms h.1)
  where
    go : (g : Bool) → AreRows [] (flat_map row_of arms) →
        AreRows [] (row_of (record { pat = a.pat; guarded = g }) ++ flat_map row_of arms)
    go true k = k
    go false k = ((h.0, tt), k)

-- ---- pieces

-- where no head is a text, none is named
no_text : (heads : List MCtor) → Every (IsAllowed false) heads → filter_map text_of heads ≡ []
no_text [] h = refl
no_text (TextCtor u ∷ heads) h = untrue h.0
no_text (_ ∷ heads) h = no_text heads h.1

no_other : {A : Type 0} (u : List ℕ) → TextCtor u ≡ OtherTextCtor → A
no_other u e = absurd cc

text_among : (texts : List (List ℕ)) (u : List ℕ) → Among (TextCtor u) (map TextCtor texts ++ OtherTextCtor ∷ []) →
    list_any (text_eq u) texts ≡ true
text_among [] u (inl e) = no_other u e
text_among [] u (inr a) = absurd a
text_among (t ∷ ts) u (inl e) =
    let same : u ≡ t = cc in
    or_left (text_eq u t) (list_any (text_eq u) ts) (subst (λ x. text_eq u x ≡ true) same (text_itself u))
text_among (t ∷ ts) u (inr a) = or_right (text_eq u t) (list_any (text_eq u) ts) (text_among ts u a)

none_among : (set : MSet) (heads pieces : List MCtor) (u : List ℕ) → ArePieces set heads pieces →
    Every (IsAllowed false) heads → Among (TextCtor u) pieces → belongs set (TextCtor u) ≡ true → false ≡ true
none_among TextSet heads pieces u (texts, named, is) h a m =
    ap (list_any (text_eq u)) (sym (no_text heads h)) ∙ sym (named.each u)
    ∙ text_among texts u (subst (λ xs. Among (TextCtor u) xs) is a)
none_among set heads pieces u k h a m = m

-- a piece is a text only where one may stand
pub piece_allowed : (set : MSet) (heads pieces : List MCtor) (b : Bool) (p : MCtor) → ArePieces set heads pieces →
    Every (IsAllowed b) heads → Among p pieces → belongs set p ≡ true → IsAllowed b p
piece_allowed set heads pieces true (TextCtor u) k h a m = refl
piece_allowed set heads pieces false (TextCtor u) k h a m = none_among set heads pieces u k h a m
piece_allowed set heads pieces b _ k h a m = tt
