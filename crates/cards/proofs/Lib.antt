mod CardTests
mod Passed
mod Outcomes
