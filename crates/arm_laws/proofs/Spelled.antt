-- The text of an arm spells the arm's pattern, and no other.
use Rattle.std.proofs.Common.{◌≡◌, ℕ, true, false, List, [], refl, sym, ap, subst, ◌∙◌, chars, append-nil}
use Rattle.std.proofs.lemmas.Str.{chars-encodes}
use Rattle.decl_lexer.specs.Lexing.{Placed, ends, nothing, mark_width, without_mark, HasTokens}
use Rattle.decl_syntax.specs.Units.{units, from_of}
use Rattle.decl_syntax.specs.Patterns.{PatternTree, fits}
use Rattle.decl_syntax.specs.Patterns as patterns
use Rattle.decl_syntax.specs.PatternGrammar.{PatternForm, SpellsPlain, SpellsPattern}
use Rattle.decl_syntax.specs.PatternReading.{pattern_at}
use Rattle.decl_syntax.specs.Widths.{pattern_is_wide}
use Rattle.decl_syntax.proofs.Joined.{one_reading}
use Rattle.decl_syntax.proofs.PatternLaws.{patterns as read_patterns}
use Rattle.value_syntax.proofs.Encoded.{Encodes}
use Rattle.value_syntax.proofs.Lexed.{Lexable, Both}
use Rattle.value_syntax.proofs.LexedNames.{at_end}
use Rattle.value_syntax.proofs.Texts.{same_tokens}
use Rattle.witness_text.specs.Texts.{arm_text}
use Rattle.witness_text.specs.Trees.{WitnessTree}
use Rattle.arm_maker.specs.Arms.{arm_tree}
use Rattle.arm_maker.specs.Sizes.{arm_fits}
use Rattle.arm_laws.specs.Patterns.{arm_shape, unplaced, without_places}
use Rattle.arm_laws.specs.Spelled.{Spells}
use Rattle.arm_laws.specs.SpellingLaws.{ArmOfWitnessSpells, ArmTextSpells}
use Rattle.arm_laws.proofs.ArmChars.{tree_chars, tree_encodes}
use Rattle.arm_laws.proofs.Armed.{Armed, whole, calm_end}
use Rattle.arm_laws.proofs.Measures.{same_fits, same_wide, pattern_fits, pattern_narrow}
use Rattle.arm_laws.proofs.Parts.{IsReady}
use Rattle.arm_laws.proofs.Typed.{typed_spellable}
use Rattle.arm_laws.proofs.Walk.{back}

-- nothing stands behind
abbrev IsEnd : List Placed → Type 0
IsEnd us = us ≡ []

lexes_alone : (n : ℕ) (w : WitnessTree) → IsReady n w → Both (tree_chars w) (Armed n (arm_shape w) IsEnd)
unfolding units
lexes_alone n w r =
    let ended : Lexable [] IsEnd = λ at. ([], ends at [] (nothing at), refl) in
    subst (λ cs. Both cs (Armed n (arm_shape w) IsEnd)) (append-nil (tree_chars w))
    (back n w [] IsEnd r at_end calm_end ended)

-- a text that begins with no byte order mark lexes from its first byte on
has_tokens : (bytes cs : List ℕ) (Q : List Placed → Type 0) → Encodes cs bytes → Both cs Q
    → (tokens : List Placed) × HasTokens bytes tokens × Q (units tokens)
has_tokens bytes cs Q e b =
    let same : chars bytes ≡ cs = ap chars (sym e.1) ∙ chars-encodes cs e.0 in
    let width : mark_width (chars bytes) ≡ 0 = rw (same, b.no_mark) refl in
    let text : without_mark (chars bytes) ≡ cs = rw (same, b.no_mark) refl in
    let r = b.alone 0 in
    (r.0, ((cs, e), rw (width, text) r.1), r.2)

-- tokens that spell a pattern of this shape with nothing behind
spelled_whole : (us : List Placed) (w : WitnessTree) → arm_fits 64 w ≡ true → (a : Armed 64 (arm_shape w) IsEnd us)
    → SpellsPattern us (patterns.At (from_of us) a.form) []
unfolding SpellsPattern
spelled_whole us w f a =
    let p = patterns.At (from_of us) a.form in
    let form : PatternForm (SpellsPlain 64) us p a.rest = whole 64 us a.rest a.form a.spelled a.fresh
    (calm_end a.rest a.holds).bar in
    let fits_it : fits p 64 ≡ true =
    sym (same_fits p 64) ∙ ap (λ s. fits (unplaced s) 64) a.same ∙ pattern_fits w 64 f in
    (subst (λ vs. PatternForm (SpellsPlain 64) us p vs) a.holds form, fits_it)

-- a text spells at most one pattern
alone : (text : List ℕ) (p q : PatternTree) → Spells text p → Spells text q → q ≡ p
alone text p q s t =
    let same : t.tokens ≡ s.tokens = same_tokens text t.tokens s.tokens t.lexed s.lexed in
    let u : SpellsPattern (units s.tokens) q [] = subst (λ ts. SpellsPattern (units ts) q []) same t.spelled in
    (one_reading SpellsPattern pattern_at read_patterns (units s.tokens) [] [] q p u s.spelled).0

pub arm_text_spells : ArmTextSpells
arm_text_spells w s f r =
    let b = lexes_alone 64 w (record { spellable = s; fits = f; referred = r }) in
    let t = has_tokens (arm_text w) (tree_chars w) (Armed 64 (arm_shape w) IsEnd) (tree_encodes w s) b in
    let a = t.2 in
    let p = patterns.At (from_of (units t.0)) a.form in
    let same : without_places p ≡ unplaced (arm_shape w) = ap unplaced a.same in
    let narrow : pattern_is_wide p ≡ false = sym (same_wide p) ∙ ap pattern_is_wide same ∙ pattern_narrow w 64 f in
    let spells : Spells (arm_text w) p =
    record { tokens = t.0; lexed = t.1; spelled = spelled_whole (units t.0) w f a; narrow = narrow } in
    (p, record { spells = spells; alone = λ q u. alone (arm_text w) p q spells u }, same)

pub arm_of_witness_spells : ArmOfWitnessSpells
arm_of_witness_spells program t w names typed ends_at f r =
    arm_text_spells (arm_tree program t w) (typed_spellable program t w names typed ends_at) f r
