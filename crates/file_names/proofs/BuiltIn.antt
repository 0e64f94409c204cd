-- The names of the enums that every file has, and of their variants, are identifiers.
use Rattle.std.proofs.Common.{◌≡◌, ℕ, true, false, List, refl, codes, chars, All, ◌<◌}
use Rattle.std.specs.Prelude.{Some, is_some}
use Rattle.std.specs.Str.{IsAscii, bytes_eq}
use Rattle.std.specs.List.{list_all}
use Rattle.std.proofs.lemmas.List.{get_or_default}
use Rattle.std.proofs.lemmas.Str.{chars-IsAscii, IsUtf8-from_ascii}
use Rattle.unicode_ident.proofs.Computing.{unicode_ident}
use Rattle.unicode_ident.specs.Ident.{is_xid_continue}
use Rattle.unicode_normalization.specs.Forms.{Nfc}
use Rattle.unicode_normalization.proofs.FormsLemmas.{normalize-ascii}
use Rattle.decl_lexer.specs.Text.{first_passes}
use Rattle.decl_lexer.specs.Names.{is_name_start}
use Rattle.decl_lexer.specs.Words.{word_of}
use Rattle.match_model.specs.Declarations.{option_item, result_item, item_variants}
use Rattle.value_syntax.specs.Canonical.{IsName}
use Rattle.value_syntax.proofs.Encoded.{all_ascii, ascii_bytes}
use Rattle.file_names.specs.Named.{AreNamedVariants}

all_low : (bs : List ℕ) → IsAscii bs → All (λ c. c < 128) bs
all_low bs h k d lt = rw (get_or_default bs k d 0 lt) (h k)

-- an ASCII identifier that is no keyword
ascii_name : (bs : List ℕ) → all_ascii bs ≡ true → first_passes is_name_start bs ≡ true
    → list_all is_xid_continue bs ≡ true → bytes_eq bs (codes "_") ≡ false → is_some (word_of bs) ≡ false → IsName bs
ascii_name bs a s c u w =
    let same : chars bs ≡ bs = chars-IsAscii bs (ascii_bytes bs a) in record {
      utf8 = IsUtf8-from_ascii bs (ascii_bytes bs a);
      starts = rw same s;
      continues = rw same c;
      composed = rw same (normalize-ascii Nfc bs (all_low bs (ascii_bytes bs a)));
      not_underscore = u;
      may_be_raw = λ k. absurd cc;
    }

pub option_name : IsName (codes "Option")
unfolding unicode_ident
option_name = ascii_name (codes "Option") refl refl refl refl refl

pub result_name : IsName (codes "Result")
unfolding unicode_ident
result_name = ascii_name (codes "Result") refl refl refl refl refl

none_name : IsName (codes "None")
unfolding unicode_ident
none_name = ascii_name (codes "None") refl refl refl refl refl

some_name : IsName (codes "Some")
unfolding unicode_ident
some_name = ascii_name (codes "Some") refl refl refl refl refl

ok_name : IsName (codes "Ok")
unfolding unicode_ident
ok_name = ascii_name (codes "Ok") refl refl refl refl refl

err_name : IsName (codes "Err")
unfolding unicode_ident
err_name = ascii_name (codes "Err") refl refl refl refl refl

pub option_named : AreNamedVariants (item_variants (Some option_item))
option_named = ((none_name, tt), ((some_name, tt), tt))

pub result_named : AreNamedVariants (item_variants (Some result_item))
result_named = ((ok_name, tt), ((err_name, tt), tt))
