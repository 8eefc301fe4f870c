-- Each answer is one law of what follows a kind, from what was filled and how many bytes follow.
use mathlib.Core.Path.{◌∙◌}
use Rattle.laws.specs.Facts.{passed_on}
use Rattle.trace.proofs.RecordLaws.{few_fields, kind_none, kind_end, kind_record, kind_short}
use Rattle.trace.proofs.records.after_kind.Goals as goal

pub fields_at-requires : goal.fields_at-requires
fields_at-requires c = few_fields c.args.kind _ c.limits.ensures

pub returns-in_err-from : goal.returns-in_err-from
returns-in_err-from c = passed_on _ _ c.from_residual.ensures.1 ∙ kind_none _ _ c.args.kind _ c.fields_at.new.out _ c.limits.ensures c.in_err-from.ensures

pub overflow_sub-trace : goal.overflow_sub-trace
overflow_sub-trace c = kind_end _ _ c.args.kind _ _ _ _ c.requires c.limits.ensures c.in_ok-from.ensures c.bytes_after-bytes.ensures

pub returns-then-bytes-trace : goal.returns-then-bytes-trace
returns-then-bytes-trace c = kind_short _ _ c.args.kind _ _ _ _ c.requires c.limits.ensures c.in_ok-from.ensures c.bytes_after-bytes.ensures c.if-bytes-trace.true

pub returns : goal.returns
returns c = kind_record _ _ c.args.kind _ _ _ _ c.requires c.limits.ensures c.in_ok-from.ensures c.bytes_after-bytes.ensures c.if-bytes-trace.false
