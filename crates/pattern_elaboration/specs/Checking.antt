-- A table of types, the setting of its file, and what was found by a name.
use Rattle.std.specs.Prelude.{◌≡◌, true, List, is_some}
use Rattle.match_model.specs.declared.Width.{Width}
use Rattle.match_model.specs.Types.{MType}
use Rattle.decl_syntax.specs.Items.{ItemTree}
use Rattle.type_names.specs.Finding.{FoundTree, found_form}
use Rattle.type_table.specs.declared.table.TypeTable.{TypeTable}
use Rattle.type_table.specs.Tables.{IsTableOf}
use Rattle.pattern_rules.specs.Settings.{Setting}
use Rattle.pattern_rules.specs.Namings.{meets}

-- the table is that of some file
abbrev pub IsOfFile : TypeTable → Type 0
IsOfFile table = (items : List ItemTree) × (width : Width) × IsTableOf items width table

-- the table is that of the setting's file
abbrev pub IsSettingOf : TypeTable → Setting → Type 0
IsSettingOf table s = IsTableOf s.items s.width table

-- what was found is there, and the type is that struct or enum
pub record IsMet (s : Setting) (found : FoundTree) (t : MType) : Type 0 where
  pub there : is_some (found_form s.items found) ≡ true
  pub met : meets found t ≡ true
