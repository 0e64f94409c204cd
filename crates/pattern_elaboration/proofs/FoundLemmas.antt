-- What a table finds, by what the definitions find.
use Rattle.type_names.specs.Finding.{FoundTree, FoundNothing, FoundTwice, FoundStruct, FoundVariant}
use Rattle.type_table.specs.declared.table.TypeTable.{TypeTable}
use Rattle.type_table.specs.declared.finding.Found.{Found}
use Rattle.type_table.specs.Paths.{FoundIs, FoundOf}

-- a struct that was found is of the table
pub found_of : (table : TypeTable) (told : FoundTree) (found : Found) → FoundIs table told found → FoundOf table found
found_of table FoundNothing found h = rw h tt
found_of table FoundTwice found h = rw h tt
found_of table (FoundStruct i) found h = rw h.1 h.2
found_of table (FoundVariant o k) found h = rw h.1 tt
