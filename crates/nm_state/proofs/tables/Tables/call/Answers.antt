use Rattle.std.proofs.Common.{refl}
use Rattle.nm_state.proofs.OpeningLemmas.{applied_as}
use Rattle.nm_state.proofs.tables.Tables.call.Goals as goal

pub returns-in_ok-access_answer-in-Access : goal.returns-in_ok-access_answer-in-Access
returns-in_ok-access_answer-in-Access c = applied_as c.args.self.now c.args.call.now _ c.args.verdict _ refl c.in-Access.is c.in_ok-access_answer-in-Access.ensures

pub returns-in_ok-commit_answer-in-Commit : goal.returns-in_ok-commit_answer-in-Commit
returns-in_ok-commit_answer-in-Commit c = applied_as c.args.self.now c.args.call.now _ c.args.verdict _ refl c.in-Commit.is c.in_ok-commit_answer-in-Commit.ensures

pub returns-in_ok-getattr_answer-in-GetAttr : goal.returns-in_ok-getattr_answer-in-GetAttr
returns-in_ok-getattr_answer-in-GetAttr c = applied_as c.args.self.now c.args.call.now _ c.args.verdict _ refl c.in-GetAttr.is c.in_ok-getattr_answer-in-GetAttr.ensures

pub returns-in_ok-test_answer-in-LockTest : goal.returns-in_ok-test_answer-in-LockTest
returns-in_ok-test_answer-in-LockTest c = applied_as c.args.self.now c.args.call.now _ c.args.verdict _ refl c.in-LockTest.is c.in_ok-test_answer-in-LockTest.ensures

pub returns-in_ok-lookup_answer-in-Lookup : goal.returns-in_ok-lookup_answer-in-Lookup
returns-in_ok-lookup_answer-in-Lookup c = applied_as c.args.self.now c.args.call.now _ c.args.verdict _ refl c.in-Lookup.is c.in_ok-lookup_answer-in-Lookup.ensures

pub returns-in_ok-lookupp_answer-in-LookupP : goal.returns-in_ok-lookupp_answer-in-LookupP
returns-in_ok-lookupp_answer-in-LookupP c = applied_as c.args.self.now c.args.call.now _ c.args.verdict _ refl c.in-LookupP.is c.in_ok-lookupp_answer-in-LookupP.ensures

pub returns-in_ok-read_answer-in-Read : goal.returns-in_ok-read_answer-in-Read
returns-in_ok-read_answer-in-Read c = applied_as c.args.self.now c.args.call.now _ c.args.verdict _ refl c.in-Read.is c.in_ok-read_answer-in-Read.ensures

pub returns-in_ok-readdir_answer-in-ReadDir : goal.returns-in_ok-readdir_answer-in-ReadDir
returns-in_ok-readdir_answer-in-ReadDir c = applied_as c.args.self.now c.args.call.now _ c.args.verdict _ refl c.in-ReadDir.is c.in_ok-readdir_answer-in-ReadDir.ensures
