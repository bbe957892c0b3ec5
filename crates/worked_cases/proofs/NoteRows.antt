-- Serves tests: the lines of statuses that no small run ends by, and of a remote named visit. `put_note` puts them.
use Rattle.std.specs.Prelude.{◌≡◌, [], ◌∷◌, pos, negsuc, refl, codes}
use Rattle.std.specs.Fmt.{digits}
use Rattle.sq_parse.specs.declared.parser.ParseFault.TheVariants as parse
use Rattle.table_csv.specs.declared.fault.TableFault.TheVariants as table
use Rattle.sq_bind.specs.declared.fault.BindFault.TheVariants as bind
use Rattle.remote_lookup.specs.declared.remote.KeyFault.TheVariants as why
use Rattle.run_plan.specs.declared.status.Status.TheVariants as status
use Rattle.run_plan.specs.declared.status.FileOf.TheVariants as file
use Rattle.run_plan.specs.declared.status.LimitOf.TheVariants as limit
use Rattle.run_notes.specs.Note.{Names, names_of, line_of}

-- no table and no remote
abbrev nothing : Names
nothing = names_of [] []

-- the remote visit, looked up by who
abbrev visit : Names
visit = names_of [] (record { name = codes "visit"; column = codes "who"; prefix = codes "v/" } ∷ [])

too_many_columns : line_of nothing (status.Limit (limit.Table 0 table.TooManyColumns)) ≡ codes "limit: columns of table \n"
unfolding line_of digits
too_many_columns = refl

too_many_rows : line_of nothing (status.Limit (limit.Table 0 table.TooManyRows)) ≡ codes "limit: rows of table \n"
unfolding line_of digits
too_many_rows = refl

too_many_statements : line_of nothing (status.Limit (limit.Parse (parse.TooManyStatements 1024))) ≡ codes "limit: statements at byte 1024\n"
unfolding line_of digits
too_many_statements = refl

too_many_conjuncts : line_of nothing (status.Limit (limit.Bind 2 (bind.TooManyConjuncts 406))) ≡ codes "limit: conjuncts at byte 406\n"
unfolding line_of digits
too_many_conjuncts = refl

no_memory : line_of nothing status.Memory ≡ codes "out of memory\n"
unfolding line_of digits
no_memory = refl

bad_heading : line_of visit (status.BadHeading 0) ≡ codes "remote visit: bad heading\n"
unfolding line_of digits
bad_heading = refl

bad_key : line_of visit (status.BadKey record { remote = 0; key = negsuc 4 } (why.OtherKey 1)) ≡ codes "remote visit key -5: bad file\n"
unfolding line_of digits
bad_key = refl

no_heading : line_of visit (status.NotFound (file.Heading 0)) ≡ codes "not found: heading of visit\n"
unfolding line_of digits
no_heading = refl

unread_key : line_of visit (status.Read (file.Key record { remote = 0; key = pos 2 })) ≡ codes "read fault: remote visit key 2\n"
unfolding line_of digits
unread_key = refl

large_heading : line_of visit (status.Limit (limit.File (file.Heading 0))) ≡ codes "limit: file of heading of visit\n"
unfolding line_of digits
large_heading = refl

large_key : line_of visit (status.Limit (limit.File (file.Key record { remote = 0; key = negsuc 9223372036854775807 })))
    ≡ codes "limit: file of remote visit key -9223372036854775808\n"
unfolding line_of digits
large_key = refl

too_many_keys : line_of visit (status.Limit (limit.Keys 0)) ≡ codes "limit: keys of remote visit\n"
unfolding line_of digits
too_many_keys = refl

too_many_rows_of_keys : line_of visit (status.Limit (limit.Rows 0)) ≡ codes "limit: rows of remote visit\n"
unfolding line_of digits
too_many_rows_of_keys = refl
