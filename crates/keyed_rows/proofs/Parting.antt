-- A step at any column keeps the rows of an arm parted by what they decided.
use Rattle.std.proofs.Common.{◌≡◌, ◌<◌, ◌≤◌, ◌⊎◌, inl, inr, ℕ, zero, suc, ◌+◌, List, [], ◌∷◌, ◌++◌, map, length, None, refl, sym, ap, ◌∙◌, arith, subst}
use Rattle.std.proofs.lemmas.Bool.{cases_lt}
use Rattle.match_model.specs.Rows.{Head}
use Rattle.match_model.specs.Keys.{Decision, Key, both_keys, IsBefore}
use Rattle.match_model.specs.Lists.{Every, Ordered, Among}
use Rattle.match_model.specs.Steps.{Replacement, with_others, with_head, replacements_at}
use Rattle.keyed_rows.specs.Dividing.{head_count, HeadsWithin, IsOpen, AreFree, IsAbove, replacement_key, IsReplacement, AreReplacements, IsDivided, Divides, GoodAt}
use Rattle.keyed_rows.specs.Parting.{AreAlike, IsParted}
use Rattle.keyed_rows.proofs.Lists.{every-map, every-to, ordered-map, before-keep, before-new, none-is-not}

-- of two that are among things in an order, one comes first, or they are one
pub two-of : {A : Type 0} (R : A → A → Type 0) (xs : List A) (x y : A) → Ordered R xs → Among x xs → Among y xs →
    (x ≡ y) ⊎ (R x y ⊎ R y x)
two-of R [] x y o i j = elim i [ ]
two-of R (z ∷ zs) x y o (inl e) (inl f) = inl (e ∙ sym f)
two-of R (z ∷ zs) x y o (inl e) (inr j) = inr (inl (subst (λ w. R w y) (sym e) (one zs o.0 j)))
  where
    one : (ys : List _) → Every (R z) ys → Among y ys → R z y
    one [] k m = elim m [ ]
    one (w ∷ ws) k (inl e) = subst (R z) (sym e) k.0
    one (w ∷ ws) k (inr m) = one ws k.1 m
two-of R (z ∷ zs) x y o (inr i) (inl f) = inr (inr (subst (λ w. R w x) (sym f) (one zs o.0 i)))
  where
    one : (ys : List _) → Every (R z) ys → Among x ys → R z x
    one [] k m = elim m [ ]
    one (w ∷ ws) k (inl e) = subst (R z) (sym e) k.0
    one (w ∷ ws) k (inr m) = one ws k.1 m
two-of R (z ∷ zs) x y o (inr i) (inr j) = two-of R zs x y o.1 i j

pub among-every : {A : Type 0} (P : A → Type 0) (xs : List A) (x : A) → Every P xs → Among x xs → P x
among-every P [] x k i = elim i [ ]
among-every P (y ∷ ys) x k (inl e) = subst P (sym e) k.0
among-every P (y ∷ ys) x k (inr i) = among-every P ys x k.1 i

pub among-map : {A B : Type 0} (f : A → B) (xs : List A) (y : B) → Among y (map f xs) → (x : A) × Among x xs × (y ≡ f x)
among-map f [] y i = elim i [ ]
among-map f (x ∷ xs) y (inl e) = (x, inl refl, e)
among-map f (x ∷ xs) y (inr i) = let r = among-map f xs y i in (r.0, inr r.1, r.2)

module _ {T : Type 0} (decides : ℕ → Decision) where
  abbrev YK : Replacement T → Key
  YK y = replacement_key decides y

  -- a head above a number is above each lower one
  above-lower : (d e : ℕ) (h : Head T) → e ≤ d → IsAbove decides d h → IsAbove decides e h
  above-lower d e h l a = let over : d < a.0 = a.1 in (a.0, omega (arith, l, over), a.2)

  alike-lower : (d e : ℕ) (hs gs : List (Head T)) → e ≤ d → AreAlike decides d hs gs → AreAlike decides e hs gs
  alike-lower d e [] [] l a = tt
  alike-lower d e [] (g ∷ gs) l a = elim a [ ]
  alike-lower d e (h ∷ hs) [] l a = elim a [ ]
  alike-lower d e (h ∷ hs) (g ∷ gs) l a = (one a.0, alike-lower d e hs gs l a.1)
    where
      one : (h ≡ g) ⊎ (IsAbove decides d h × IsAbove decides d g) → (h ≡ g)
          ⊎ (IsAbove decides e h × IsAbove decides e g)
      one (inl s) = inl s
      one (inr b) = inr (above-lower d e h l b.0, above-lower d e g l b.1)

  alike-same : (d : ℕ) (hs : List (Head T)) → AreAlike decides d hs hs
  alike-same d [] = tt
  alike-same d (h ∷ hs) = (inl refl, alike-same d hs)

  alike-above : (d : ℕ) (hs gs : List (Head T)) → length hs ≡ length gs → Every (IsAbove decides d) hs →
      Every (IsAbove decides d) gs → AreAlike decides d hs gs
  alike-above d [] [] l a b = tt
  alike-above d [] (g ∷ gs) l a b = absurd (omega (arith, l))
  alike-above d (h ∷ hs) [] l a b = absurd (omega (arith, l))
  alike-above d (h ∷ hs) (g ∷ gs) l a b = (inr (a.0, b.0), alike-above d hs gs (omega (arith, l)) a.1 b.1)

  alike-append : (d : ℕ) (hs gs hs' gs' : List (Head T)) → AreAlike decides d hs gs → AreAlike decides d hs' gs' →
      AreAlike decides d (hs ++ hs') (gs ++ gs')
  alike-append d [] [] hs' gs' a b = b
  alike-append d [] (g ∷ gs) hs' gs' a b = elim a [ ]
  alike-append d (h ∷ hs) [] hs' gs' a b = elim a [ ]
  alike-append d (h ∷ hs) (g ∷ gs) hs' gs' a b = (a.0, alike-append d hs gs hs' gs' a.1 b)

  -- heads with numbers from above `d` on are above it
  pub within-above : (d low high : ℕ) (hs : List (Head T)) → d < low → HeadsWithin decides low high hs →
      Every (IsAbove decides d) hs
  within-above d low high [] l w = tt
  within-above d low high (h ∷ hs) l w =
      let start : low ≤ w.0 = w.1 in
      ((w.0, omega (arith, l, start), w.2), within-above d (head_count h + w.0) high hs (omega (arith, l, start)) w.3)

  -- what is free of a key is free of it and decisions elsewhere
  free-more : (k : Key) (y : Key) (low : ℕ) (hs : List (Head T)) → ((o : ℕ) → low ≤ o → y o ≡ None) →
      AreFree decides k low hs → AreFree decides (both_keys k y) low hs
  free-more k y low [] h f = tt
  free-more k y low (g ∷ gs) h f =
      let start : low ≤ f.0 = f.1 in (
        f.0,
        f.1,
        f.2,
        (λ o a b. rw (f.3 o a b) (h o (omega (arith, start, a)))),
        free-more k y (head_count g + f.0) gs
            (λ o a. h o (omega (arith, start, a))) f.4,
      )

  pub within-length : (low high : ℕ) (hs : List (Head T)) → HeadsWithin decides low high hs → low ≤ high
  within-length low high [] w = w
  within-length low high (h ∷ hs) w =
      let start : low ≤ w.0 = w.1 in
      let rest : head_count h + w.0 ≤ high = within-length (head_count h + w.0) high hs w.3 in
      omega (arith, start, rest)

  free-lower : (k : Key) (low high : ℕ) (hs : List (Head T)) → low ≤ high → AreFree decides k high hs →
      AreFree decides k low hs
  free-lower k low high [] l f = tt
  free-lower k low high (h ∷ hs) l f = let start : high ≤ f.0 = f.1 in (f.0, omega (arith, l, start), f.2, f.3, f.4)

  -- heads within a free span, and those behind it
  free-append : (k y : Key) (low high : ℕ) (hs gs : List (Head T)) → HeadsWithin decides low high hs →
      ((o : ℕ) → low ≤ o → o < high → k o ≡ None) → ((o : ℕ) → low ≤ o → y o ≡ None) →
      AreFree decides (both_keys k y) high gs →
      AreFree decides (both_keys k y) low (hs ++ gs)
  free-append k y low high [] gs w a b f = free-lower (both_keys k y) low high gs w f
  free-append k y low high (h ∷ hs) gs w a b f =
      let start : low ≤ w.0 = w.1 in
      let end : head_count h + w.0 ≤ high = within-length (head_count h + w.0) high hs w.3 in (
        w.0,
        w.1,
        w.2,
        (λ o p q. rw (a o (omega (arith, start, p)) (omega (arith, q, end))) (b o (omega (arith, start, p)))),
        free-append k y (head_count h + w.0) high hs gs w.3 (λ o p q. a o (omega (arith, start, p)) q)
            (λ o p. b o (omega (arith, start, p))) f,
      )

  -- what a step leaves of a row is free again
  pub record Left (k : Key) (low : ℕ) (y : Replacement T) : Type 0 where
    pub free : AreFree decides (both_keys k (YK y)) low y.heads
    pub late : (o : ℕ) → o < low → YK y o ≡ None

  pub free-step : (Good : Head T → Type 0) (width : ℕ) (f : Head T → List (Replacement T)) →
      Divides decides Good width f → (k : Key) (low i : ℕ) (hs : List (Head T)) → GoodAt Good i hs →
      AreFree decides k low hs →
      Every (Left k low) (replacements_at f i hs)
  free-step Good width f d k low i [] g a = tt
  free-step Good width f d k low zero (h ∷ hs) g a =
      every-map (IsReplacement decides a.0 (head_count h + a.0) width) (Left k low) (with_others hs) (f h) one
      (d h a.0 g a.2).each
    where
      one : (y : Replacement T) → IsReplacement decides a.0 (head_count h + a.0) width y → Left k low (with_others hs y)
      one y w =
          let start : low ≤ a.0 = a.1 in
          let from : a.0 ≤ w.middle = w.from in
          record {
            free = free-lower (both_keys k (YK y)) low w.middle (y.heads ++ hs) (omega (arith, start, from))
                (free-append k (YK y) w.middle (head_count h + a.0) y.heads hs w.left
                (λ o p q. a.3 o (omega (arith, from, p)) q) w.decided.above
                (free-more k (YK y) (head_count h + a.0) hs (λ o p. w.decided.above o (behind y w o p)) a.4));
            late = λ o p. w.decided.below o (omega (arith, p, start));
          }
        where
          behind : (y : Replacement T) (w : IsReplacement decides a.0 (head_count h + a.0) width y) (o : ℕ) →
              head_count h + a.0 ≤ o → w.middle ≤ o
          behind y w o p =
              let m : w.middle ≤ head_count h + a.0 = within-length w.middle (head_count h + a.0) y.heads w.left in
              omega (arith, m, p)
  free-step Good width f d k low (suc i) (h ∷ hs) g a =
      every-map (Left k (head_count h + a.0)) (Left k low) (with_head h) (replacements_at f i hs) one
      (free-step Good width f d k (head_count h + a.0) i hs g a.4)
    where
      one : (y : Replacement T) → Left k (head_count h + a.0) y → Left k low (with_head h y)
      one y l =
          let start : low ≤ a.0 = a.1 in
          record {
            free = (a.0, a.1, a.2, (λ o p q. rw (a.3 o p q) (l.late o q)), l.free);
            late = λ o p. l.late o (omega (arith, p, start));
          }

  -- two rows after a step, parted no later than before
  pub record Still (limit : ℕ) (k : Key) (hs : List (Head T)) (l : Key) (gs : List (Head T)) : Type 0 where
    pub parted : IsParted decides k hs l gs
    pub early : parted.before.at ≤ limit

  abbrev pub StillEither : (limit : ℕ) (k : Key) (hs : List (Head T)) (l : Key) (gs : List (Head T)) → Type 0
  StillEither limit k hs l gs = Still limit k hs l gs ⊎ Still limit l gs k hs

  -- what is to be shown of a replacement of each
  abbrev Both : (k l : Key) (limit : ℕ) → Replacement T → Replacement T → Type 0
  Both k l limit y z = StillEither limit (both_keys k (YK y)) y.heads (both_keys l (YK z)) z.heads

  -- an or-pattern that a replacement decided is one of its head's
  open-there : (low high width : ℕ) (m : Key) (u w : Replacement T) (e : AreReplacements decides u w) →
      IsReplacement decides low high width u → IsOpen m low high → m e.before.at ≡ None
  open-there low high width m u w e g o = o e.before.at from upto
    where
      from : low ≤ e.before.at
      from =
          elim (cases_lt e.before.at low) [
            | inl l ↦ none-is-not (YK u) e.before.at e.before.one
                (g.decided.below e.before.at l) e.before.first
            | inr l ↦ l
          ]

      upto : e.before.at < high
      upto = elim (cases_lt e.before.at g.middle) [
        | inl l ↦ (let m : g.middle ≤ high = within-length g.middle high u.heads g.left in omega (arith, l, m))
        | inr l ↦ none-is-not (YK u) e.before.at e.before.one (g.decided.above e.before.at l) e.before.first
      ]

  lower-all : (d e : ℕ) (hs : List (Head T)) → e ≤ d → Every (IsAbove decides d) hs → Every (IsAbove decides e) hs
  lower-all d e hs l a = every-to (IsAbove decides d) (IsAbove decides e) hs (λ h b. above-lower d e h l b) a

  -- the replacements of one head: their own difference is the first one from now on
  newer : (m w : Key) (limit : ℕ) (fs gs : List (Head T)) (u x : Replacement T) (e : AreReplacements decides u x) →
      e.before.at ≤ limit → length u.heads ≡ length x.heads →
      m e.before.at ≡ None → ((o : ℕ) → o < e.before.at + 1 → m o ≡ w o) → AreAlike decides e.before.at fs gs →
      Still limit (both_keys m (YK u)) (u.heads ++ fs) (both_keys w (YK x)) (x.heads ++ gs)
  newer m w limit fs gs u x e s l n same a = record {
    parted = record {
      before =
          before-new m w (YK u) (YK x) e.before n (sym (same e.before.at (omega arith)) ∙ n)
          (λ o p. same o (omega (arith, p)));
      alike =
          alike-append e.before.at u.heads x.heads fs gs
          (alike-above e.before.at u.heads x.heads l e.first_above e.second_above) a;
    };
    early = s;
  }

  -- the rows' difference stays the first one
  kept : (k l : Key) (b : IsBefore k l) (hs gs : List (Head T)) (y z : Replacement T) →
      ((o : ℕ) → o < b.at → YK y o ≡ YK z o) → AreAlike decides b.at y.heads z.heads → AreAlike decides b.at hs gs →
      Still b.at (both_keys k (YK y)) (y.heads ++ hs) (both_keys l (YK z)) (z.heads ++ gs)
  kept k l b hs gs y z s h a = record {
    parted = record { before = before-keep k l (YK y) (YK z) b s; alike = alike-append b.at y.heads z.heads hs gs h a };
    early = omega arith;
  }

  one-head : (k l : Key) (b : IsBefore k l) (low high width : ℕ) (hs gs : List (Head T)) (ys : List (Replacement T))
      (y z : Replacement T) →
      IsDivided decides low high width ys → AreAlike decides b.at hs gs → AreAlike decides b.at gs hs →
      IsOpen k low high → Among y ys → Among z ys → Both k l b.at (with_others hs y) (with_others gs z)
  one-head k l b low high width hs gs ys y z d a a' p i j = go (two-of (AreReplacements decides) ys y z d.parted i j)
    where
      is_y : IsReplacement decides low high width y
      is_y = among-every (IsReplacement decides low high width) ys y d.each i

      is_z : IsReplacement decides low high width z
      is_z = among-every (IsReplacement decides low high width) ys z d.each j

      wide : length y.heads ≡ length z.heads
      wide = is_y.wide ∙ sym is_z.wide

      go : (y ≡ z) ⊎ (AreReplacements decides y z ⊎ AreReplacements decides z y) →
          Both k l b.at (with_others hs y) (with_others gs z)
      go (inl e) =
          inl (kept k l b hs gs y z (λ o r. ap (λ x. YK x o) e) (subst (λ x. AreAlike decides b.at y.heads x.heads) e
          (alike-same b.at y.heads)) a)
      go (inr (inl e)) = elim (cases_lt e.before.at b.at) [
        | inl s ↦ inl (newer k l b.at hs gs y z e (omega (arith, s)) wide (open-there low high width k y z e is_y p)
            (λ o r. b.same o (omega (arith, r, s))) (alike-lower b.at e.before.at hs gs (omega (arith, s)) a))
        | inr s ↦ inl (kept k l b hs gs y z (λ o r. e.before.same o (omega (arith, r, s)))
            (alike-above b.at y.heads z.heads wide (lower-all e.before.at b.at y.heads s e.first_above)
            (lower-all e.before.at b.at z.heads s e.second_above)) a)
      ]
      go (inr (inr e)) = elim (cases_lt e.before.at b.at) [
        | inl s ↦ inr (newer l k b.at gs hs z y e (omega (arith, s)) (sym wide)
            (sym (b.same e.before.at s) ∙ open-there low high width k z y e is_z p)
            (λ o r. sym (b.same o (omega (arith, r, s)))) (alike-lower b.at e.before.at gs hs (omega (arith, s)) a'))
        | inr s ↦ inl (kept k l b hs gs y z (λ o r. sym (e.before.same o (omega (arith, r, s))))
            (alike-above b.at y.heads z.heads wide (lower-all e.before.at b.at y.heads s e.second_above)
            (lower-all e.before.at b.at z.heads s e.first_above)) a)
      ]

  alike-sym : (d : ℕ) (hs gs : List (Head T)) → AreAlike decides d hs gs → AreAlike decides d gs hs
  alike-sym d [] [] a = tt
  alike-sym d [] (g ∷ gs) a = elim a [ ]
  alike-sym d (h ∷ hs) [] a = elim a [ ]
  alike-sym d (h ∷ hs) (g ∷ gs) a = (turn a.0, alike-sym d hs gs a.1)
    where
      turn : (h ≡ g) ⊎ (IsAbove decides d h × IsAbove decides d g) → (g ≡ h)
          ⊎ (IsAbove decides d g × IsAbove decides d h)
      turn (inl s) = inl (sym s)
      turn (inr b) = inr (b.1, b.0)

  module _ (Good : Head T → Type 0) (width : ℕ) (f : Head T → List (Replacement T))
      (divides : Divides decides Good width f) where
    -- two heads whose or-patterns come later
    later-heads : (k l : Key) (b : IsBefore k l) (h g : Head T) (hs gs : List (Head T)) (y z : Replacement T) →
        Good h → Good g → IsAbove decides b.at h → IsAbove decides b.at g → AreAlike decides b.at hs gs →
        Among y (f h) → Among z (f g) → Both k l b.at (with_others hs y) (with_others gs z)
    later-heads k l b h g hs gs y z good good' ah ag a i j =
        inl (kept k l b hs gs y z (λ o r. is_y.decided.below o (late o r ah.0 ah.1)
        ∙ sym (is_z.decided.below o (late o r ag.0 ag.1)))
        (alike-above b.at y.heads z.heads (is_y.wide ∙ sym is_z.wide) (over ah.0 (head_count h + ah.0) y ah.1 is_y)
        (over ag.0 (head_count g + ag.0) z ag.1 is_z)) a)
      where
        is_y : IsReplacement decides ah.0 (head_count h + ah.0) width y
        is_y =
            among-every (IsReplacement decides ah.0 (head_count h + ah.0) width) (f h) y
            (divides h ah.0 good ah.2).each i

        is_z : IsReplacement decides ag.0 (head_count g + ag.0) width z
        is_z =
            among-every (IsReplacement decides ag.0 (head_count g + ag.0) width) (f g) z
            (divides g ag.0 good' ag.2).each j

        late : (o : ℕ) → o < b.at → (n : ℕ) → b.at < n → o < n
        late o r n s = omega (arith, r, s)

        over : (n high : ℕ) (u : Replacement T) → b.at < n → IsReplacement decides n high width u →
            Every (IsAbove decides b.at) u.heads
        over n high u s w =
            let from : n ≤ w.middle = w.from in within-above b.at w.middle high u.heads (omega (arith, s, from)) w.left

    -- two rows of an arm stay parted
    pub rows-parted : (k l : Key) (b : IsBefore k l) (low i : ℕ) (hs gs : List (Head T)) (y z : Replacement T) →
        GoodAt Good i hs → GoodAt Good i gs → AreFree decides k low hs → AreAlike decides b.at hs gs →
        Among y (replacements_at f i hs) → Among z (replacements_at f i gs) → Both k l b.at y z
    rows-parted k l b low i [] gs y z good good' fk a m n = elim m [ ]
    rows-parted k l b low i (h ∷ hs) [] y z good good' fk a m n = elim a [ ]
    rows-parted k l b low zero (h ∷ hs) (g ∷ gs) y z good good' fk a m n =
        let my = among-map (with_others hs) (f h) y m in
        let mz = among-map (with_others gs) (f g) z n in
        rw (my.2, mz.2) (go my.0 my.1 mz.0 mz.1 a.0)
      where
        go : (u : Replacement T) → Among u (f h) → (x : Replacement T) → Among x (f g) → (h ≡ g)
            ⊎ (IsAbove decides b.at h × IsAbove decides b.at g) → Both k l b.at (with_others hs u) (with_others gs x)
        go u p x q (inl e) =
            one-head k l b fk.0 (head_count h + fk.0) width hs gs (f h) u x (divides h fk.0 good fk.2) a.1
            (alike-sym b.at hs gs a.1) fk.3 p (subst (λ c. Among x (f c)) (sym e) q)
        go u p x q (inr e) = later-heads k l b h g hs gs u x good good' e.0 e.1 a.1 p q
    rows-parted k l b low (suc i) (h ∷ hs) (g ∷ gs) y z good good' fk a m n =
        let my = among-map (with_head h) (replacements_at f i hs) y m in
        let mz = among-map (with_head g) (replacements_at f i gs) z n in
        rw (my.2, mz.2) (go my.0 mz.0 (rows-parted k l b
        (head_count h + fk.0) i hs gs my.0 mz.0 good good' fk.4 a.1 my.1 mz.1))
      where
        straight : (e : ℕ) → e ≤ b.at → (h ≡ g) ⊎ (IsAbove decides e h × IsAbove decides e g)
        straight e l = (alike-lower b.at e (h ∷ []) (g ∷ []) l (a.0, tt)).0

        crossed : (e : ℕ) → e ≤ b.at → (g ≡ h) ⊎ (IsAbove decides e g × IsAbove decides e h)
        crossed e l = (alike-sym e (h ∷ []) (g ∷ []) (straight e l, tt)).0

        go : (u x : Replacement T) → Both k l b.at u x → Both k l b.at (with_head h u) (with_head g x)
        go u x (inl s) =
            inl (record {
              parted = record {
                before = s.parted.before;
                alike = (straight s.parted.before.at s.early, s.parted.alike);
              };
              early = s.early;
            })
        go u x (inr s) =
            inr (record {
              parted = record {
                before = s.parted.before;
                alike = (crossed s.parted.before.at s.early, s.parted.alike);
              };
              early = s.early;
            })

    -- a row's replacements are parted, in their order
    pub row-divided : (k : Key) (low i : ℕ) (hs : List (Head T)) → GoodAt Good i hs → AreFree decides k low hs →
        Ordered (λ y z. IsParted decides (both_keys k (YK y)) y.heads (both_keys k (YK z)) z.heads)
        (replacements_at f i hs)
    row-divided k low i [] good fk = tt
    row-divided k low zero (h ∷ hs) good fk = go (f h) d.each d.parted
      where
        d : IsDivided decides fk.0 (head_count h + fk.0) width (f h)
        d = divides h fk.0 good fk.2

        pair : (y z : Replacement T) → IsReplacement decides fk.0 (head_count h + fk.0) width y →
            IsReplacement decides fk.0 (head_count h + fk.0) width z → AreReplacements decides y z →
            IsParted decides (both_keys k (YK y)) (y.heads ++ hs) (both_keys k (YK z)) (z.heads ++ hs)
        pair y z p q e =
            (newer k k e.before.at hs hs y z e (omega arith) (p.wide ∙ sym q.wide)
            (open-there fk.0 (head_count h + fk.0) width k y z e p fk.3) (λ o r. refl)
            (alike-same e.before.at hs)).parted

        go : (ys : List (Replacement T)) → Every (IsReplacement decides fk.0 (head_count h + fk.0) width) ys →
            Ordered (AreReplacements decides) ys →
            Ordered (λ y z. IsParted decides (both_keys k (YK y)) y.heads (both_keys k (YK z)) z.heads)
            (map (with_others hs) ys)
        go [] p o = tt
        go (y ∷ ys) p o = (after ys p.1 o.0, go ys p.1 o.1)
          where
            after : (zs : List (Replacement T)) → Every (IsReplacement decides fk.0 (head_count h + fk.0) width) zs →
                Every (AreReplacements decides y) zs →
                Every (λ z. IsParted decides (both_keys k (YK y)) (y.heads ++ hs) (both_keys k (YK z)) z.heads)
                (map (with_others hs) zs)
            after [] q r = tt
            after (z ∷ zs) q r = (pair y z p.0 q.0 r.0, after zs q.1 r.1)
    row-divided k low (suc i) (h ∷ hs) good fk =
        ordered-map (λ y z. IsParted decides (both_keys k (YK y)) y.heads (both_keys k (YK z)) z.heads)
        (λ y z. IsParted decides (both_keys k (YK y)) y.heads (both_keys k (YK z)) z.heads)
        (with_head h) (replacements_at f i hs) (λ y z p. record { before = p.before; alike = (inl refl, p.alike) })
        (row-divided k (head_count h + fk.0) i hs good fk.4)
