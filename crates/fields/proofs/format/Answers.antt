use Rattle.model.specs.Formats.{format_of}
use Rattle.fields.proofs.Codes.{no_format}
use Rattle.fields.proofs.format.Goals as goal

pub returns-in-0 : goal.returns-in-0
unfolding format_of
returns-in-0 c = rw c.in-0.is

pub returns-in-4 : goal.returns-in-4
unfolding format_of
returns-in-4 c = rw c.in-4.is

pub returns-in-5 : goal.returns-in-5
unfolding format_of
returns-in-5 c = rw c.in-5.is

pub returns-in-6 : goal.returns-in-6
unfolding format_of
returns-in-6 c = rw c.in-6.is

pub returns-in-8 : goal.returns-in-8
unfolding format_of
returns-in-8 c = rw c.in-8.is

pub returns-in_default : goal.returns-in_default
returns-in_default c = let r = c.in_default.in_default-own.rest in no_format _ r.0.0.0.0.1 r.0.0.0.1 r.0.0.1 r.0.1 r.1
