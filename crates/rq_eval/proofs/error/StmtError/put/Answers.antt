use Rattle.rq_eval.proofs.error.StmtError.put.Goals as goal

pub returns-in-QueryInExecute : goal.returns-in-QueryInExecute
returns-in-QueryInExecute c = rw c.in-QueryInExecute.is c.push_plain.ensures.ok

pub returns-in-ChangeInQuery : goal.returns-in-ChangeInQuery
returns-in-ChangeInQuery c = rw c.in-ChangeInQuery.is c.push_plain-in-ChangeInQuery.ensures.ok

pub returns-in-NoTable : goal.returns-in-NoTable
returns-in-NoTable c = rw c.in-NoTable.is c.put_name.ensures

pub returns-in-TableExists : goal.returns-in-TableExists
returns-in-TableExists c = rw c.in-TableExists.is c.put_named.ensures

pub returns-in-ReservedName : goal.returns-in-ReservedName
returns-in-ReservedName c = rw c.in-ReservedName.is c.put_name-in-ReservedName.ensures

pub returns-in-DuplicateColumn : goal.returns-in-DuplicateColumn
returns-in-DuplicateColumn c = rw c.in-DuplicateColumn.is c.put_name-in-DuplicateColumn.ensures

pub returns-in-SecondPrimaryKey : goal.returns-in-SecondPrimaryKey
returns-in-SecondPrimaryKey c = rw c.in-SecondPrimaryKey.is c.put_named-in-SecondPrimaryKey.ensures

pub returns-in-NoColumnInTable : goal.returns-in-NoColumnInTable
returns-in-NoColumnInTable c = rw c.in-NoColumnInTable.is c.put_column.ensures

pub returns-in-NoColumn : goal.returns-in-NoColumn
returns-in-NoColumn c = rw c.in-NoColumn.is c.put_name-in-NoColumn.ensures

pub returns-in-NoQualifiedColumn : goal.returns-in-NoQualifiedColumn
returns-in-NoQualifiedColumn c = rw c.in-NoQualifiedColumn.is c.put_column-in-NoQualifiedColumn.ensures

pub returns-in-WrongValueCount : goal.returns-in-WrongValueCount
returns-in-WrongValueCount c = rw c.in-WrongValueCount.is c.put_value_count.ensures

pub returns-in-WrongListCount : goal.returns-in-WrongListCount
returns-in-WrongListCount c = rw c.in-WrongListCount.is c.put_counts.ensures

pub returns-in-NoFunction : goal.returns-in-NoFunction
returns-in-NoFunction c = rw c.in-NoFunction.is c.put_name-in-NoFunction.ensures

pub returns-in-WrongArguments : goal.returns-in-WrongArguments
returns-in-WrongArguments c = rw c.in-WrongArguments.is c.put_named-in-WrongArguments.ensures

pub returns-in-MisuseOfAggregate : goal.returns-in-MisuseOfAggregate
returns-in-MisuseOfAggregate c = rw c.in-MisuseOfAggregate.is c.push_plain-in-MisuseOfAggregate.ensures.ok

pub returns-in-OrderTermOutOfRange : goal.returns-in-OrderTermOutOfRange
returns-in-OrderTermOutOfRange c = rw c.in-OrderTermOutOfRange.is c.push_plain-in-OrderTermOutOfRange.ensures.ok

pub returns-in-DatatypeMismatch : goal.returns-in-DatatypeMismatch
returns-in-DatatypeMismatch c = rw c.in-DatatypeMismatch.is c.push_plain-in-DatatypeMismatch.ensures.ok

pub returns-in-Value : goal.returns-in-Value
returns-in-Value c = rw c.in-Value.is (rw c.value_words.ensures.words at c.push_plain-in-Value.ensures.ok)

pub returns-in-CannotStore : goal.returns-in-CannotStore
returns-in-CannotStore c = rw c.in-CannotStore.is c.put_cannot_store.ensures

pub returns-in-RowidOutOfRange : goal.returns-in-RowidOutOfRange
returns-in-RowidOutOfRange c = rw c.in-RowidOutOfRange.is c.push_plain-in-RowidOutOfRange.ensures.ok

pub returns-in-Full : goal.returns-in-Full
returns-in-Full c = rw c.in-Full.is c.push_plain-in-Full.ensures.ok

pub returns-in-NotNullFailed : goal.returns-in-NotNullFailed
returns-in-NotNullFailed c = rw c.in-NotNullFailed.is c.put_column-in-NotNullFailed.ensures

pub returns-in-UniqueFailed : goal.returns-in-UniqueFailed
returns-in-UniqueFailed c = rw c.in-UniqueFailed.is c.put_column-in-UniqueFailed.ensures
