-- `records::header::header_by` meets its contract: a header that is cut short, and one that is whole. Assumes nothing.
use Rattle.std.proofs.Common.{rules}
use Rattle.records.proofs.Headers.{lives_near, header_cut, header_whole}
use Rattle.records.proofs.header.header_by.Goals as goal

pub overflow_add-lives : goal.overflow_add-lives
overflow_add-lives c = let h = (lives_near c.args.format.flags).1 in let e = c.lives_at-lives.ensures in search rules

pub returns-then-file-lives : goal.returns-then-file-lives
returns-then-file-lives c = let a = c.args in header_cut a.format a.file.now c.lives_at-lives.ensures c.if-file-lives.true

pub returns : goal.returns
returns c =
    let a = c.args in
    header_whole a.format a.file.now c.lives_at-lives.ensures (search rules) c.flags_in-flags.ensures c.u32_at-ls.ensures c.u32_at-la.ensures
