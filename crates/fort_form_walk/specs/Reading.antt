-- The tables of the code, in the words of the definitions.
use Rattle.fort_hier.specs.Numbers.{all_types}
use Rattle.fort_form_walk.specs.FormsOf.{Tables}
use Rattle.fort_form_walk.specs.declared.tables.Tables.{Tables as TablesInCode}

abbrev pub tables : TablesInCode → Tables
tables t =
    record {
      types = all_types t.names.now t.heads.now;
      names = t.names.now;
      groups = t.groups.list.now;
    }
