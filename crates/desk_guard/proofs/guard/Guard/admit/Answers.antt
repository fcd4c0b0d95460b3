use Rattle.std.proofs.Common.{◌≡◌, ◌++◌, unwrap_or, sym, [], subst, inr, None, ℕ, List}
use Rattle.std.proofs.lemmas.Result.{err_from_is_err_and}
use Rattle.http.specs.Request.{body_of}
use Rattle.desk_guard.specs.Sent.{is_recent, form_tests}
use Rattle.desk_guard.specs.Tests.{Refuses, first_failed}
use Rattle.desk_guard.specs.Guard.{site_tests, user_tests, token_tests, user_of}
use Rattle.desk_guard.proofs.TestSteps.{refuses_first, refuses_rest, kept_again, is_there}
use Rattle.desk_guard.proofs.guard.Guard.admit.Goals as goal

pub returns-in_err-user-clause-refused : goal.returns-in_err-user-clause-refused
returns-in_err-user-clause-refused c =
    let guard = c.args.self.now in
    let request = c.args.request.now in
    let user = unwrap_or (user_of guard request) [] in
    let site = site_tests guard.hosts.items request in
    let who = user_tests guard request in
    let rest = token_tests guard.key user c.args.token.now c.args.now ++ form_tests (body_of request) c.args.now c.args.sent.now in
    let p = err_from_is_err_and c.from_residual-in_err-user.result c.from_residual-in_err-user.ensures.1 in
    rw (p.1, p.2)
    (refuses_rest site (who ++ rest) _ c.in_ok-check_site.ensures.passed
    (refuses_first who rest _ (inr c.in_err-user.ensures.refused)))

pub returns-in_err-check_token-clause-refused : goal.returns-in_err-check_token-clause-refused
returns-in_err-check_token-clause-refused c =
    let guard = c.args.self.now in
    let request = c.args.request.now in
    let user = unwrap_or (user_of guard request) [] in
    let site = site_tests guard.hosts.items request in
    let who = user_tests guard request in
    let token = token_tests guard.key user c.args.token.now c.args.now in
    let form = form_tests (body_of request) c.args.now c.args.sent.now in
    let is = is_there (user_of guard request) c.in_ok-user.user.now c.in_ok-user.ensures.user in
    let p = err_from_is_err_and c.from_residual-in_err-check_token.result c.from_residual-in_err-check_token.ensures.1 in
    rw (p.1, p.2)
    (refuses_rest site (who ++ (token ++ form)) _ c.in_ok-check_site.ensures.passed
    (refuses_rest who (token ++ form) _ c.in_ok-user.ensures.passed
    (refuses_first token form _
    (subst (λ (name : List ℕ). Refuses (token_tests guard.key name c.args.token.now c.args.now) c.in_err-check_token.field-0.0) (sym is)
    c.in_err-check_token.ensures.refused))))

pub returns-in_err-take-clause-refused : goal.returns-in_err-take-clause-refused
returns-in_err-take-clause-refused c =
    let guard = c.args.self.now in
    let request = c.args.request.now in
    let user = unwrap_or (user_of guard request) [] in
    let site = site_tests guard.hosts.items request in
    let who = user_tests guard request in
    let token = token_tests guard.key user c.args.token.now c.args.now in
    let form = form_tests (body_of request) c.args.now c.args.sent.now in
    let is = is_there (user_of guard request) c.in_ok-user.user.now c.in_ok-user.ensures.user in
    let p = err_from_is_err_and c.from_residual-in_err-take.result c.from_residual-in_err-take.ensures.1 in
    rw (p.1, p.2)
    (refuses_rest site (who ++ (token ++ form)) _ c.in_ok-check_site.ensures.passed
    (refuses_rest who (token ++ form) _ c.in_ok-user.ensures.passed
    (refuses_rest token form _
    (subst (λ (name : List ℕ). first_failed (token_tests guard.key name c.args.token.now c.args.now) ≡ None) (sym is)
    c.in_ok-check_token.ensures.passed)
    (rw (c.as_slice.ensures, c.body.ensures) at c.in_err-take.ensures.refused))))

pub returns-in_err-take-clause-untaken : goal.returns-in_err-take-clause-untaken
returns-in_err-take-clause-untaken c =
    let p = err_from_is_err_and c.from_residual-in_err-take.result c.from_residual-in_err-take.ensures.1 in
    rw (p.1, c.in_err-take.ensures.forgotten) (kept_again (is_recent c.args.now) c.args.sent.now)
