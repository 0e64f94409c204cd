-- Names: what begins one may stand within it, and ASCII names are in NFC.
use Rattle.std.proofs.Common.{◌≡◌, ℕ, Bool, true, false, ◌||◌, eqb, List, chars, encode_utf8_all, All, ◌<◌, ◌==◌, sym, ap, ◌∙◌, lit<, inl, inr}
use Rattle.std.proofs.lemmas.Bool.{eqb-true, or_cases}
use Rattle.std.proofs.lemmas.List.{get_or_default}
use Rattle.std.proofs.lemmas.Str.{chars-IsAscii, encodes-IsAscii}
use Rattle.std.specs.Char.{is_ascii_alphanumeric}
use Rattle.std.specs.Str.{IsAscii}
use Rattle.unicode_normalization.proofs.FormsLemmas.{normalize-ascii}
use Rattle.unicode_normalization.specs.Forms.{nfc, Nfc}
use Rattle.unicode_ident.specs.Ident.{is_xid_start, is_xid_continue}
use Rattle.unicode_ident.proofs.IdentLemmas.{is_xid_start-is_xid_continue, is_xid_continue-ascii}
use Rattle.decl_lexer.specs.Names.{is_name_start}

pub start_continues : (c : ℕ) → is_name_start c ≡ true → is_xid_continue c ≡ true
start_continues c h =
    elim (or_cases (is_xid_start c) (eqb c 95) h) [
      | inl letter ↦ is_xid_start-is_xid_continue c letter
      | inr mark ↦ ap is_xid_continue (eqb-true c 95 mark) ∙ is_xid_continue-ascii 95 (lit< tt)
    ]

-- an ASCII letter or digit continues a name, and of the other ASCII characters `_` alone does
pub continues_letter : (c : ℕ) (letter : Bool) → c < 128 → letter ≡ is_ascii_alphanumeric c → letter ≡ true → letter ≡ is_xid_continue c
continues_letter c letter lt value h = h ∙ sym (is_xid_continue-ascii c lt ∙ ap (λ b. b || c == 95) (sym value ∙ h))

pub continues_mark : (c : ℕ) (letter : Bool) → c < 128 → letter ≡ is_ascii_alphanumeric c → letter ≡ false → (c == 95) ≡ is_xid_continue c
continues_mark c letter lt value h = sym (is_xid_continue-ascii c lt ∙ ap (λ b. b || c == 95) (sym value ∙ h))

all_ascii : (bs : List ℕ) → IsAscii bs → All (λ c. c < 128) bs
all_ascii bs h k d lt = rw (get_or_default bs k d 0 lt) (h k)

-- ASCII text is in NFC
pub nfc_ascii : (bs : List ℕ) → IsAscii bs → encode_utf8_all (nfc (chars bs)) ≡ bs
nfc_ascii bs h =
    ap (λ cs. encode_utf8_all (nfc cs)) (chars-IsAscii bs h) ∙ ap encode_utf8_all (normalize-ascii Nfc bs (all_ascii bs h)) ∙ encodes-IsAscii bs h
