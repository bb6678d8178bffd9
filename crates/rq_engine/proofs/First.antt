-- What a log leaves is valid.
use Rattle.std.proofs.Common.{◌≡◌, ◌≤◌, ◌+◌, ℕ, true, List, [], ◌∷◌, length, map, Option, Some, None, refl, sym, ap, subst, ◌∙◌, arith}
use Rattle.std.specs.List.{sum_by}
use Rattle.std.specs.FinMap as fin
use Rattle.std.specs.FinMap.{get-empty, len-empty}
use Rattle.rq_statement.specs.declared.command.Command.{Command}
use Rattle.rq_meaning.specs.Database.{Table, Database, name_cmp, table_size, tables_size, size_limit}
use Rattle.rq_meaning.specs.Valid.{Valid}
use Rattle.rq_engine.specs.Fold.{State, run, first, after, replica}
use Rattle.rq_engine.specs.Proper.{is_command, are_commands}
use Rattle.rq_engine.proofs.Keeping.{both}

-- what is known of commands
abbrev pub CommandsKeep : Type 0
CommandsKeep = (s : State) (c : Command) → is_command c ≡ true → Valid s.database → Valid (run s c).0.database

no_length : {A : Type 0} (xs : List A) → length xs ≡ 0 → xs ≡ []
no_length [] e = refl
no_length (x ∷ xs) e = absurd (omega arith)

no_tables : Database
no_tables = fin.empty

no_entries : fin.entries no_tables ≡ []
unfolding no_tables
no_entries = no_length _ (sym (fin.len-entries no_tables) ∙ len-empty name_cmp Table)

none_there : {P : Type 0} (name : List ℕ) (t : Table) → fin.get no_tables name ≡ Some t → P
unfolding no_tables
none_there name t e = lost (sym (get-empty name_cmp name) ∙ e)
  where
    lost : {P : Type 0} → ◌≡◌ {A = Option Table} None (Some t) → P
    lost q = absurd (cc)

none_size : tables_size no_tables ≡ 4
none_size = ap (λ es. 4 + sum_by table_size (map (λ e. e.1) es)) no_entries

none_valid : Valid no_tables
none_valid = record {
  named = λ name t e. none_there name t e;
  tables = λ name t e. none_there name t e;
  size = subst (λ n. n ≤ size_limit) (sym none_size) (omega arith);
}

after_valid : CommandsKeep → (s : State) (log : List Command) → are_commands log ≡ true → Valid s.database → Valid (after s log).database
after_valid keep s [] g v = v
after_valid keep s (c ∷ log) g v = let p = both (is_command c) (are_commands log) g in after_valid keep (run s c).0 log p.1 (keep s c p.0 v)

pub replica_valid : CommandsKeep → (ids : List (List ℕ)) (log : List Command) → are_commands log ≡ true → Valid (replica ids log).database
unfolding first no_tables
replica_valid keep ids log g = after_valid keep (first ids) log g none_valid
